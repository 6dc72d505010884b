-- Two texts compared byte by byte, and a room read digit by digit.
use mathlib.Core.Bool.{Bool, true, false, cond, and-eq-true_iff}
use mathlib.Core.List.{List, [], ◌∷◌}
use mathlib.Core.Path.{◌≡◌, refl, sym, ◌∙◌}
use Prim.Native.Nat.{ℕ, suc, ◌+◌, ◌*◌, ◌-◌, ◌^◌, ◌≤◌, ◌<◌}
use native.Mathlib.Nat.{pow-suc, pow-le-pow_right}
use native.Mathlib.Numerals.{add-one}
use native.Mathlib.Omega.{arith}
use lib.Dec.{eqb, leb}
use lib.ListN.{length, get_or, drop, drop_of_length-le}
use borrow.Author.Tests.{leb-true, le-leb, lt-leb}
use Rattle.std.specs.Char.{is_ascii_digit}
use Rattle.std.specs.Cmp.Lexicographic.{pointwise}
use Rattle.words.proofs.Over.{drop-next}
use Rattle.replays.specs.Arguments.{same_bytes, is_digit, all_digits, is_decimal, digits_from, room_of}

-- what `==` answers of two texts
same-bytes : (xs ys : List ℕ) → pointwise eqb xs ys ≡ same_bytes xs ys
same-bytes [] [] = refl
same-bytes [] (y ∷ ys) = refl
same-bytes (x ∷ xs) [] = refl
same-bytes (x ∷ xs) (y ∷ ys) = rw (same-bytes xs ys)

-- a test by `==` of a text and a slice that holds ys
pub same-test : (xs ys : List ℕ) {zs : List ℕ} {t : Bool} → zs ≡ ys → t ≡ pointwise eqb xs zs → same_bytes xs ys ≡ t
same-test xs ys e f = sym (rw e at f ∙ same-bytes xs ys)

-- what `is_ascii_digit` answers
pub digit-test : (d : ℕ) {t : Bool} → t ≡ is_ascii_digit d → is_digit d ≡ t
unfolding is_digit
digit-test d e = sym e

-- a digit's byte
pub digit_bounds : (d : ℕ) → is_digit d ≡ true → (48 ≤ d) × (d ≤ 57)
unfolding is_digit
digit_bounds d e =
    let both = (and-eq-true_iff (leb 48 d) (leb d 57)).0 e in
    (leb-true 48 d both.0, leb-true d 57 both.1)

-- the room that a text gives where the digits read stand for n and the bytes ds are left
abbrev pub room_from : ℕ → List ℕ → ℕ
room_from n ds = cond (all_digits ds) (digits_from n ds) 0

-- before the first digit
pub room-start : (text : List ℕ) → length text ≤ 9 → room_of text ≡ room_from 0 text
unfolding room_of is_decimal
room-start [] h = refl
room-start (d ∷ ds) h = rw (le-leb 1 (suc (length ds)) (omega arith), le-leb (suc (length ds)) 9 h)

module _ (text : List ℕ) where
  -- too many digits
  pub room-long : 9 < length text → room_of text ≡ 0
  unfolding room_of is_decimal
  room-long h = rw (le-leb 1 (length text) (omega arith), lt-leb (length text) 9 h)

  -- a digit more
  pub room_next : (n i : ℕ) → i < length text → is_digit (get_or text i 0) ≡ true
      → room_from n (drop i text) ≡ room_from (10 * n + (get_or text i 0 - 48)) (drop (i + 1) text)
  room_next n i h e = rw (drop-next text i 0 h, e)

  -- a byte that is no digit
  pub room-none : (n i : ℕ) → i < length text → is_digit (get_or text i 0) ≡ false → room_from n (drop i text) ≡ 0
  room-none n i h e = rw (drop-next text i 0 h, e)

  -- behind the last digit
  pub room-end : (n i : ℕ) → length text ≤ i → room_from n (drop i text) ≡ n
  room-end n i h = rw (drop_of_length-le text {i = i} h)

-- i digits and one more stand for a number below 10 ^ (i + 1)
pub room_bound : (n d i : ℕ) → d ≤ 57 → n < 10 ^ i → 10 * n + (d - 48) < 10 ^ (i + 1)
room_bound n d i h g = rw (add-one i) (omega (arith, pow-suc 10 i))

-- fewer than nine digits
pub room_small : (n i : ℕ) → i < 9 → n < 10 ^ i → n < 10 ^ 8
room_small n i h g = omega (arith, pow-le-pow_right {n = 10} (omega arith) {i = i} {j = 8} (omega arith))
