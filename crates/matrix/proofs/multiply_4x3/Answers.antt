use mathlib.Core.List.{◌++◌}
use mathlib.Core.Path.{◌∙◌}
use Prim.Native.Nat.{◌<◌}
use lib.IntN.{pos}
use lib.ListN.{length}
use Rattle.matrix.specs.Matrix.{at, row_by, mul, one, matrix4x3}
use Rattle.matrix.proofs.Arrays.{number_at}
use borrow.Author.Rules.{rules}
use Rattle.matrix.proofs.multiply_4x3.Goals as goal

pub returns : goal.returns
unfolding mul matrix4x3
returns c =
    let m = c.args.c in
    let e = c.offsets-x.ensures in
    let f = c.offsets-a.ensures in
    let x9 : 9 < length c.offsets-x.result = search rules in
    let x10 : 10 < length c.offsets-x.result = search rules in
    let x11 : 11 < length c.offsets-x.result = search rules in
    let x = number_at c.offsets-x.result e 9 x9 in
    let y = number_at c.offsets-x.result e 10 x10 in
    let z = number_at c.offsets-x.result e 11 x11 in
    c.three_rows.ensures
    ∙ (λ t. row_by (at (e t) 0) (at (e t) 1) (at (e t) 2) (pos 0) (f t)
    ++ row_by (at (e t) 3) (at (e t) 4) (at (e t) 5) (pos 0) (f t)
    ++ row_by (at (e t) 6) (at (e t) 7) (at (e t) 8) (pos 0) (f t)
    ++ (c.moved_row.ensures ∙ (λ s. row_by (x s) (y s) (z s) one m)) t)
