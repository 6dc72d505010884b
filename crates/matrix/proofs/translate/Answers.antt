use mathlib.Core.List.{[], ◌∷◌}
use mathlib.Core.Path.{sym, ◌∙◌}
use lib.Dec.{lit<}
use mir.Facts.{to_z-of_z}
use mir.Syntax.{w32}
use Rattle.std.specs.List.{flat_map}
use Rattle.lowbits.proofs.Elements.{element-fits}
use Rattle.matrix.specs.Matrix.{row_by, mul, one, translate_matrix}
use Rattle.matrix.proofs.Rows.{row_one}
use Rattle.matrix.proofs.translate.Goals as goal

pub returns : goal.returns
unfolding mul row_by translate_matrix
returns c =
    let m = c.args.c in
    let kept = row_one m (element-fits w32 m _ c.well_formed.0.1.1) in
    let x = c.offset.ensures ∙ to_z-of_z c.ranges.x in
    let y = c.offset-2.ensures ∙ to_z-of_z c.ranges.y in
    let z = c.offset-3.ensures ∙ to_z-of_z c.ranges.z in
    c.matrix_of.ensures
    ∙ (λ t. flat_map (λ row. row) ((c.row.ensures ∙ sym (kept 0 (lit< tt))) t ∷ (c.row-2.ensures ∙ sym (kept 1 (lit< tt))) t
    ∷ (c.row-3.ensures ∙ sym (kept 2 (lit< tt))) t
    ∷ (c.moved_row-moved.ensures ∙ (λ s. row_by (x s) (y s) (z s) one m)) t ∷ []))
