use mathlib.Core.List.{List, [], ◌∷◌, ◌++◌, map, append-nil}
use mathlib.Core.Path.{◌≡◌, refl, ap, ◌∙◌}
use Prim.Native.Nat.{ℕ, ◌+◌, ◌<◌}
use native.Mathlib.Omega.{arith}
use lib.IntN.{ℤ, pos}
use lib.ListN.{length, get_or}
use Rattle.std.specs.List.{flat_map}
use Rattle.products.specs.Inside.{number, numbers}
use Rattle.matrix.specs.Matrix.{at, row_by}
use Rattle.matrix.proofs.Arrays.{number_at}
use borrow.Author.Rules.{rules}
use Rattle.matrix.proofs.three_rows.Goals as goal

-- the row of three numbers of x from i on, × c
read_row : (x : List ℕ) (c : List ℤ) (i : ℕ) → i + 2 < length x
    → row_by (number (get_or x i 0)) (number (get_or x (i + 1) 0)) (number (get_or x (i + 2) 0)) (pos 0) c
    ≡ row_by (at (map number x) i) (at (map number x) (i + 1)) (at (map number x) (i + 2)) (pos 0) c
read_row x c i h =
    let h0 = number_at x refl i (omega arith) in
    let h1 = number_at x refl (i + 1) (omega arith) in
    let h2 = number_at x refl (i + 2) (omega arith) in
    λ t. row_by (h0 t) (h1 t) (h2 t) (pos 0) c

pub returns : goal.returns
unfolding row_by
returns c =
    let p = c.args.p in
    let m = numbers c.args.c in
    let last = c.args.last in
    let p2 : 2 < length p = search rules in
    let p5 : 5 < length p = search rules in
    let p8 : 8 < length p = search rules in
    let row : ℕ → List ℤ = λ i. row_by (at (numbers p) i) (at (numbers p) (i + 1)) (at (numbers p) (i + 2)) (pos 0) m in
    c.matrix_of.ensures
    ∙ (λ t. flat_map (λ r. r) ((c.row_of_three.ensures ∙ read_row p m 0 p2) t ∷ (c.row_of_three-2.ensures ∙ read_row p m 3 p5) t
    ∷ (c.row_of_three-3.ensures ∙ read_row p m 6 p8) t ∷ last ∷ []))
    ∙ ap (λ (l : List ℤ). row 0 ++ row 3 ++ row 6 ++ l) (append-nil last)
