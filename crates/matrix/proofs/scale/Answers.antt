use mathlib.Core.List.{List, [], ◌∷◌, map}
use mathlib.Core.Path.{sym, ◌∙◌}
use lib.Dec.{lit<}
use lib.IntN.{ℤ, ◌*ℤ◌}
use mir.Facts.{to_z-of_z}
use mir.Syntax.{w32}
use Rattle.std.specs.List.{flat_map}
use Rattle.lowbits.proofs.Elements.{element-fits}
use Rattle.matrix.specs.Matrix.{rounded, mul, row_by, scale_matrix}
use Rattle.matrix.proofs.Rows.{row-alone, row_one}
use Rattle.matrix.proofs.scale.Goals as goal

-- a row, each number times n
abbrev times : ℤ → List ℤ → List ℤ
times n row = map (λ (a : ℤ). rounded (n *ℤ a)) row

pub returns : goal.returns
unfolding mul row_by scale_matrix
returns c =
    let m = c.args.c in
    let kept = row_one m (element-fits w32 m _ c.well_formed.0.1.1) 3 (lit< tt) in
    c.matrix_of.ensures
    ∙ (λ t. flat_map (λ row. row) (
    (c.scaled_row.ensures ∙ (λ s. times (to_z-of_z c.ranges.x s) (c.row.ensures s)) ∙ sym (row-alone m c.args.x 0 (lit< tt))) t
    ∷ (c.scaled_row-2.ensures ∙ (λ s. times (to_z-of_z c.ranges.y s) (c.row-2.ensures s)) ∙ sym (row-alone m c.args.y 1 (lit< tt))) t
    ∷ (c.scaled_row-3.ensures ∙ (λ s. times (to_z-of_z c.ranges.z s) (c.row-3.ensures s)) ∙ sym (row-alone m c.args.z 2 (lit< tt))) t
    ∷ (c.row-4.ensures ∙ sym kept) t
    ∷ []))
