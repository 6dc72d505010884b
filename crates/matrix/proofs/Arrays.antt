-- Arrays of numbers in offset binary.
use mathlib.Core.List.{List, [], ◌∷◌, map}
use mathlib.Core.Path.{◌≡◌, refl, sym, ◌∙◌, ap}
use Prim.Native.Nat.{ℕ, zero, suc, ◌+◌, ◌*◌, ◌^◌, ◌<◌}
use native.Mathlib.Numerals.{add-one}
use native.Mathlib.Omega.{arith}
use lib.IntN.{ℤ, pos}
use lib.ListN.{length, take, get_or, set}
use lib.Seq.{take-suc, take-suc-set}
use lib.Signed.{mag}
use mir.Syntax.{w32}
use mir.Val.{to_z, of_z}
use Rattle.lowbits.proofs.Elements.{mapped_more}
use Rattle.lowbits.proofs.Read.{again}
use Rattle.products.specs.Inside.{number}
use Rattle.matrix.specs.Matrix.{entry, at, column, row_by, one}

-- an element, as a number
pub at-number : (l : List ℕ) (k : ℕ) → k < length l → at (map number l) k ≡ number (get_or l k 0)
at-number [] k h = absurd (omega arith)
at-number (x ∷ xs) zero h = refl
at-number (x ∷ xs) (suc k) h = at-number xs k (omega arith)

-- where the numbers of x stand for m's: one of them, and a row of them by those of a, which stand for c's
pub number_at : (x : List ℕ) {m : List ℤ} → map number x ≡ m → (k : ℕ) → k < length x → number (get_or x k 0) ≡ at m k
number_at x e k h = sym (at-number x k h) ∙ (λ t. at (e t) k)

pub row_at : (x : List ℕ) {m A c : List ℤ} → map number x ≡ m → A ≡ c → (i : ℕ) → i + 3 < length x
    → row_by (number (get_or x i 0)) (number (get_or x (i + 1) 0)) (number (get_or x (i + 2) 0)) (number (get_or x (i + 3) 0)) A
    ≡ row_by (at m i) (at m (i + 1)) (at m (i + 2)) (at m (i + 3)) c
row_at x e f i h =
    let h0 = number_at x e i (omega arith) in
    let h1 = number_at x e (i + 1) (omega arith) in
    let h2 = number_at x e (i + 2) (omega arith) in
    let h3 = number_at x e (i + 3) (omega arith) in
    λ t. row_by (h0 t) (h1 t) (h2 t) (h3 t) (f t)

-- four numbers, one by one
pub four : (l : List ℤ) → length l ≡ 4 → l ≡ at l 0 ∷ at l 1 ∷ at l 2 ∷ at l 3 ∷ []
four [] e = absurd (omega arith)
four (x ∷ []) e = absurd (omega arith)
four (x ∷ y ∷ []) e = absurd (omega arith)
four (x ∷ y ∷ z ∷ []) e = absurd (omega arith)
four (x ∷ y ∷ z ∷ w ∷ []) e = refl
four (x ∷ y ∷ z ∷ w ∷ v ∷ l) e = absurd (omega arith)

-- where the first i of r stand for those of m, and v for the next: one more
pub one_more : (m : List ℤ) (r : List ℕ) (i v : ℕ) → take i m ≡ map number (take i r) → number v ≡ at m i
    → i < length r → i < length m → take (i + 1) m ≡ map number (take (i + 1) (set r i v))
one_more m r i v e ev hr hm =
    rw (add-one i)
    (take-suc m i (pos 0) hm ∙ mapped_more number (take i m) (take i r) (at m i) v e (sym ev)
    ∙ sym (ap (map number) (take-suc-set r i v hr)))

-- where the numbers of p stand for P's, and those of c for A's: a row of three numbers of p by a column of c
pub three_of : {P p A c : List ℤ} → P ≡ p → A ≡ c → (i j : ℕ)
    → column (at P (3 * i)) (at P (3 * i + 1)) (at P (3 * i + 2)) (pos 0) A j
    ≡ column (at p (3 * i)) (at p (3 * i + 1)) (at p (3 * i + 2)) (pos 0) c j
three_of e f i j = λ t. column (at (e t) (3 * i)) (at (e t) (3 * i + 1)) (at (e t) (3 * i + 2)) (pos 0) (f t) j

-- and the row (x, y, z, 1.0), whose last number is read from its bits
pub moved_by_lem : {X x Y y Z z : ℤ} {A c : List ℤ} → X ≡ x → Y ≡ y → Z ≡ z → A ≡ c → (j : ℕ)
    → mag (at c (12 + j)) < 2 ^ 31
    → entry X Y Z one (at A j) (at A (4 + j)) (at A (8 + j)) (to_z w32 (of_z w32 (at c (12 + j)))) ≡ column x y z one c j
moved_by_lem {c = c} e f g h j l =
    λ t. entry (e t) (f t) (g t) one (at (h t) j) (at (h t) (4 + j)) (at (h t) (8 + j)) (again w32 (at c (12 + j)) l t)
