-- Entries with fewer than four products: rows that have one number only, which a scale and a translation have, and rows
-- whose fourth number is 0 or 1.0.
use mathlib.Core.Bool.{cond}
use mathlib.Core.List.{List, [], ◌∷◌, map}
use mathlib.Core.Path.{◌≡◌, sym, ◌∙◌, ap}
use Prim.Native.Nat.{ℕ, zero, suc, ◌+◌, ◌*◌, ◌/◌, ◌%◌, ◌^◌, ◌<◌}
use native.Mathlib.Nat.{zero-add}
use native.Mathlib.Omega.{arith}
use lib.Dec.{eqb, lit≤}
use lib.IntN.{ℤ, pos, ◌+ℤ◌, ◌*ℤ◌, +ℤ_idl, +ℤ_idr, zero-*ℤ}
use lib.Signed.{mag}
use mir.Syntax.{w32}
use Rattle.lowbits.specs.Bits.{floor_bits, low_bits, as_signed, signed_low}
use Rattle.lowbits.proofs.Laws.{low-add, low_floor, low-low, low_floor_plus, floor_times, signed_low_lem, signed_of_shifted}
use Rattle.lowbits.proofs.Read.{in_signed}
use Rattle.matrix.specs.Matrix.{rounded, entry, at, column, row_by, one}

-- 1.0 leaves a number of 32 bits
rounded-one : (z : ℤ) → mag z < 2 ^ 31 → rounded (one *ℤ z) ≡ z
rounded-one z f = ap (signed_low 32) (floor_times 12 z) ∙ signed_low_lem 32 z (in_signed w32 z (record { sfits = f }))

-- ---- from the 48 low bits of a sum

-- a sum, rounded
pub by_sum : (z : ℤ) {n : ℕ} → n ≡ low_bits 48 z → signed_low 32 (pos (n / 2 ^ 12)) ≡ rounded z
by_sum z e = ap (λ (n : ℕ). signed_low 32 (pos (n / 2 ^ 12))) e ∙ signed_of_shifted 48 12 32 z (lit≤ tt)

-- and 1.0 times d: d needs no product
pub by_sum_plus : (z d : ℤ) {n : ℕ} → n ≡ low_bits 48 z → signed_low 32 (pos (n / 2 ^ 12) +ℤ d) ≡ rounded (z +ℤ one *ℤ d)
unfolding low_bits
by_sum_plus z d e =
    ap (λ (n : ℕ). signed_low 32 (pos (n / 2 ^ 12) +ℤ d)) e
    ∙ ap (as_signed 32)
    (low-add 32 (pos (low_bits 48 z / 2 ^ 12)) d
    ∙ ap (λ (n : ℕ). (n + low_bits 32 d) % 2 ^ 32)
    (ap (λ (n : ℕ). n % 2 ^ 32) (sym (low_floor 36 12 z)) ∙ low-low 4 32 (floor_bits 12 z))
    ∙ sym (low-add 32 (floor_bits 12 z) d)
    ∙ sym (low_floor_plus 32 12 z d))

-- the fourth number 0: three products
pub entry-three : (x y z a b c d : ℤ) → rounded (x *ℤ a +ℤ y *ℤ b +ℤ z *ℤ c) ≡ entry x y z (pos 0) a b c d
unfolding entry
entry-three x y z a b c d =
    ap rounded (sym (ap (λ (v : ℤ). x *ℤ a +ℤ y *ℤ b +ℤ z *ℤ c +ℤ v) (zero-*ℤ d) ∙ +ℤ_idr _))

-- ---- rows

-- row i of m
abbrev pub matrix_row : List ℤ → ℕ → List ℤ
matrix_row m i = map (λ (j : ℕ). at m (4 * i + j)) (0 ∷ 1 ∷ 2 ∷ 3 ∷ [])

-- number k of the row whose one number is x, at place i
abbrev alone : ℤ → ℕ → ℕ → ℤ
alone x i k = cond (eqb i k) x (pos 0)

module _ (m : List ℤ) (x : ℤ) where
  -- an entry by such a row is one product, rounded
  column-alone : (i j : ℕ) → i < 4
      → column (alone x i 0) (alone x i 1) (alone x i 2) (alone x i 3) m j ≡ rounded (x *ℤ at m (4 * i + j))
  unfolding entry
  column-alone zero j h = simp (zero-*ℤ, zero-add, +ℤ_idr (x *ℤ at m j))
  column-alone (suc zero) j h =
      let v = x *ℤ at m (4 + j) in simp (zero-*ℤ, +ℤ_idl v, +ℤ_idr v)
  column-alone (suc (suc zero)) j h =
      let v = x *ℤ at m (8 + j) in simp (zero-*ℤ, +ℤ_idl v, +ℤ_idr v)
  column-alone (suc (suc (suc zero))) j h = simp (zero-*ℤ, +ℤ_idl (x *ℤ at m (12 + j)))
  column-alone (suc (suc (suc (suc i)))) j h = absurd (omega arith)

  -- so that the row × m is row i of m, each number times x
  pub row-alone : (i : ℕ) → i < 4
      → row_by (alone x i 0) (alone x i 1) (alone x i 2) (alone x i 3) m
      ≡ map (λ (a : ℤ). rounded (x *ℤ a)) (matrix_row m i)
  unfolding row_by
  row-alone i h =
      λ t. column-alone i 0 h t ∷ column-alone i 1 h t ∷ column-alone i 2 h t ∷ column-alone i 3 h t ∷ []

-- and at 1.0 row i itself, where its numbers have 32 bits
pub row_one : (m : List ℤ) → ((k : ℕ) → mag (at m k) < 2 ^ 31) → (i : ℕ) → i < 4
    → row_by (alone one i 0) (alone one i 1) (alone one i 2) (alone one i 3) m ≡ matrix_row m i
row_one m f i h =
    row-alone m one i h
    ∙ (λ t. map (λ (j : ℕ). rounded-one (at m (4 * i + j)) (f (4 * i + j)) t) (0 ∷ 1 ∷ 2 ∷ 3 ∷ []))
