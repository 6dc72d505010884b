-- Groups of k elements of a list: the records of a buffer, and their lines.
use mathlib.Core.List.{List, ◌∷◌, ◌++◌, append_assoc, append-nil}
use mathlib.Core.Path.{◌≡◌, refl, ap, subst}
use Prim.Native.Nat.{ℕ, zero, suc, ◌+◌, ◌-◌, ◌*◌, ◌/◌, ◌≤◌, ◌<◌}
use native.Mathlib.Nat.{mul-suc, mul-zero}
use native.Mathlib.Omega.{arith}
use lib.ListN.{length, take, drop, length-drop}
use lib.Seq.{take_all, drop-drop, length-take-le}
use Rattle.std.specs.Simd.{first_chunks}
use Rattle.std.proofs.lemmas.Nat.{le-div}
use Rattle.listing.specs.Text.{lines_of}
use Rattle.readout.specs.Numbers.{chunks}

module _ {A : Type 0} (k : ℕ) where
  fewer : (n m : ℕ) (l : List A) → n ≤ m → take n (first_chunks k m l) ≡ chunks k n l
  fewer zero m l h = refl
  fewer (suc n) zero l h = absurd (omega arith)
  fewer (suc n) (suc m) l h = ap (◌∷◌ (take k l)) (fewer n m (drop k l) (omega arith))

  -- the first n, of all that it has
  pub first-are : (n : ℕ) (l : List A) → 0 < k → k * n ≤ length l
      → take n (first_chunks k (length l / k) l) ≡ chunks k n l
  first-are n l z h = fewer n (length l / k) l (le-div n (length l) k z (omega arith))

-- the elements of a list behind its first
pub rest_of : {A : Type 0} (l : List A) → take (length l - 1) (drop 1 l) ≡ drop 1 l
rest_of l = take_all (length l - 1) (drop 1 l) (omega (arith, length-drop 1 l))

-- the numbers of a vertex behind its first
pub rest-are : {A : Type 0} (v : List A) → length v ≡ 5 → take 4 (drop 1 v) ≡ drop 1 v
rest-are v h =
    let four : length v - 1 ≡ 4 = omega (arith, h) in
    subst (λ (n : ℕ). take n (drop 1 v) ≡ drop 1 v) four (rest_of v)

-- group i, by where it begins and ends
module _ {A : Type 0} (k i : ℕ) (l : List A) where
  pub part-is : take (k * i + k - k * i) (drop (k * i) l) ≡ take k (drop (k * i) l)
  part-is = let size : k * i + k - k * i ≡ k = omega arith in rw size

  pub part-long : k * i + k ≤ length l → length (take (k * i + k - k * i) (drop (k * i) l)) ≡ k
  part-long h = rw part-is (length-take-le k (drop (k * i) l) (omega (arith, length-drop (k * i) l)))

-- the lines of one group more
module _ {A : Type 0} (line : List A → List ℕ) (k : ℕ) where
  pub lines_more : (n : ℕ) (l : List A)
      → lines_of line (chunks k (suc n) l) ≡ lines_of line (chunks k n l) ++ line (take k (drop (k * n) l))
  lines_more zero l = rw (append-nil, mul-zero k)
  lines_more (suc n) l =
      let next : k + k * n ≡ k * suc n = omega (arith, mul-suc k n) in
      rw (lines_more n (drop k l), drop-drop (k * n) k l, next, append_assoc)

-- fewer groups
pub fewer-chunks : {A : Type 0} (k m n : ℕ) (l : List A) → n ≤ m → chunks k n l ≡ take n (chunks k m l)
fewer-chunks k m zero l h = refl
fewer-chunks k zero (suc n) l h = absurd (omega arith)
fewer-chunks k (suc m) (suc n) l h = ap (◌∷◌ (take k l)) (fewer-chunks k m n (drop k l) (omega arith))
