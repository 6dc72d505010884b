use mathlib.Core.List.{◌++◌}
use mathlib.Core.Path.{sym, ◌∙◌}
use lib.Dec.{lit<}
use lib.IntN.{pos}
use mir.Syntax.{w32}
use Rattle.lowbits.proofs.Elements.{element-fits}
use Rattle.matrix.specs.Matrix.{at, row_by, mul, matrix3x3}
use Rattle.matrix.proofs.Rows.{row_one}
use Rattle.matrix.proofs.multiply_3x3.Goals as goal

pub returns : goal.returns
unfolding mul matrix3x3
returns c =
    let e = c.offsets.ensures in
    let f = c.offsets-2.ensures in
    let kept = row_one c.args.c (element-fits w32 c.args.c _ c.well_formed.1.0.1.1) 3 (lit< tt) in
    c.three_rows.ensures
    ∙ (λ t. row_by (at (e t) 0) (at (e t) 1) (at (e t) 2) (pos 0) (f t)
    ++ row_by (at (e t) 3) (at (e t) 4) (at (e t) 5) (pos 0) (f t)
    ++ row_by (at (e t) 6) (at (e t) 7) (at (e t) 8) (pos 0) (f t)
    ++ (c.row.ensures ∙ sym kept) t)
