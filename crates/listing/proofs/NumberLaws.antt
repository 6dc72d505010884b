-- A 32-bit number as text: what the libraries make of it in decimal and in hex, and how long that is.
use mathlib.Core.Bool.{Bool, true, false, cond}
use mathlib.Core.List.{[], ◌∷◌, ◌++◌}
use mathlib.Core.Path.{◌≡◌, refl}
use Prim.Native.Nat.{ℕ, zero, suc, ◌+◌, ◌-◌, ◌/◌, ◌%◌, ◌^◌, ◌≤◌, ◌<◌}
use native.Mathlib.Nat.{pow-suc, pow-le-pow_right}
use native.Mathlib.Omega.{arith}
use lib.Dec.{ltb}
use lib.ListN.{length, length-append}
use borrow.Author.Tests.{lt-ltb, le-ltb, ltb-true, ltb-false}
use Rattle.std.specs.Fmt.{decimal as written}
use Rattle.std.proofs.lemmas.Fmt.{decimal_digit, decimal_step}
use Rattle.io.specs.Digits.{last_digits, hex_digit_ascii, IsDigitCount}
use Rattle.listing.specs.Text.{decimal_in, decimal, hex8}

length_digits : (b k n : ℕ) → length (last_digits b k n) ≡ k
length_digits b zero n = refl
length_digits b (suc k) n =
    omega (arith, length-append (last_digits b k (n / b)) (hex_digit_ascii (n % b) ∷ []), length_digits b k (n / b))

pub length-hex : (n : ℕ) → length (hex8 n) ≡ 8
unfolding hex8
length-hex n = length_digits 16 8 n

length-decimal_in : (k n : ℕ) → length (decimal_in k n) ≤ k
length-decimal_in zero n = omega arith
length-decimal_in (suc k) n = by (ltb n 10) (length-decimal_in k (n / 10))
  where
    by : (t : Bool) → length (decimal_in k (n / 10)) ≤ k
        → length (cond t ((48 + n) ∷ []) (decimal_in k (n / 10) ++ ((48 + n % 10) ∷ []))) ≤ suc k
    by true h = omega arith
    by false h = omega (arith, length-append (decimal_in k (n / 10)) ((48 + n % 10) ∷ []))

pub length-decimal : (n : ℕ) → length (decimal n) ≤ 10
unfolding decimal
length-decimal n = length-decimal_in 10 n

-- the text of a number below 10 ^ (k + 1)
written_in : (k n : ℕ) → n < 10 ^ suc k → n < 2 ^ 64 → written n ≡ decimal_in (suc k) n
written_in zero n h small = rw (lt-ltb n 10 (omega arith)) (decimal_digit n (omega arith))
written_in (suc k) n h small =
    by (ltb n 10) refl (written_in k (n / 10) (omega (arith, pow-suc 10 (suc k))) (omega arith))
  where
    by : (t : Bool) → ltb n 10 ≡ t → written (n / 10) ≡ decimal_in (suc k) (n / 10)
        → written n ≡ decimal_in (suc (suc k)) n
    by true e rest = rw e (decimal_digit n (ltb-true n 10 e))
    by false e rest = rw (e, decimal_step n (ltb-false n 10 e) small, rest)

-- what `itoa` makes of a 32-bit number
pub decimal-written : (n : ℕ) → n < 2 ^ 32 → written n ≡ decimal n
unfolding decimal
decimal-written n h = written_in 9 n (omega arith) (omega arith)

-- a number that takes more digits than it must have is no less than a power of the base that has fewer
fewest_large : (b least n k : ℕ) → 0 < b → IsDigitCount b least n k → least < k → (j : ℕ) → j < k → b ^ j ≤ n
fewest_large b least n k z f h j g =
    omega (arith, f.2 h, pow-le-pow_right {n = b} z {i = j} {j = k - 1} (omega arith))

-- the fewest decimal digits of a number have no leading zero
fewest_decimal : (k r n : ℕ) → n < 10 ^ suc k → IsDigitCount 10 1 n r → last_digits 10 r n ≡ decimal_in (suc k) n
fewest_decimal k zero n h f = absurd (omega (arith, f.0))
fewest_decimal k (suc zero) n h f =
    let small : n < 10 = omega (arith, f.1) in
    let same : n % 10 ≡ n = omega arith in
    rw (same, lt-ltb n 10 small)
fewest_decimal zero (suc (suc r)) n h f =
    absurd (omega (arith, fewest_large 10 1 n (suc (suc r)) (omega arith) f (omega arith) 1 (omega arith)))
fewest_decimal (suc k) (suc (suc r)) n h f =
    let least = fewest_large 10 1 n (suc (suc r)) (omega arith) f (omega arith) in
    let large : 10 ≤ n = omega (arith, least 1 (omega arith)) in
    let one_less : suc r - 1 ≡ r = omega arith in
    let rest : IsDigitCount 10 1 (n / 10) (suc r) = (
      omega arith,
      omega (arith, f.1, pow-suc 10 (suc r)),
      λ g. rw one_less (omega (arith, least (suc r) (omega arith), pow-suc 10 r)),
    ) in
    let few : n / 10 < 10 ^ suc k = omega (arith, pow-suc 10 (suc k)) in
    rw (le-ltb n 10 large, lt-ltb (n % 10) 10 (omega arith), fewest_decimal k (suc r) (n / 10) few rest)

-- what `io::decimal` makes of a 32-bit number
pub decimal-digits : (n r : ℕ) → n < 2 ^ 32 → IsDigitCount 10 1 n r → last_digits 10 r n ≡ decimal n
unfolding decimal
decimal-digits n r h f = fewest_decimal 9 r n (omega arith) f

-- what `io::hex` makes of a 32-bit number
pub hex-digits : (n r : ℕ) → n < 2 ^ 32 → IsDigitCount 16 8 n r → last_digits 16 r n ≡ hex8 n
unfolding hex8
hex-digits n r h f = rw (eight (ltb 8 r) refl)
  where
    eight : (t : Bool) → ltb 8 r ≡ t → r ≡ 8
    eight true e =
        absurd (omega (arith, fewest_large 16 8 n r (omega arith) f (ltb-true 8 r e) 8 (ltb-true 8 r e)))
    eight false e = omega (arith, f.0, ltb-false 8 r e)
