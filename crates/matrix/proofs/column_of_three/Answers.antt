use mathlib.Core.List.{map}
use mathlib.Core.Path.{sym, ◌∙◌}
use Prim.Native.Nat.{◌+◌, ◌<◌}
use lib.IntN.{pos, ◌+ℤ◌, ◌*ℤ◌}
use lib.ListN.{length, get_or}
use mir.Syntax.{w32}
use Rattle.lowbits.proofs.Read.{again}
use Rattle.products.specs.Inside.{number}
use Rattle.matrix.specs.Matrix.{entry, at}
use Rattle.matrix.proofs.Arrays.{at-number}
use Rattle.matrix.proofs.Rows.{by_sum, entry-three}
use borrow.Author.Rules.{rules}
use Rattle.matrix.proofs.column_of_three.Goals as goal

pub returns : goal.returns
returns c =
    let k = c.args.c in
    let j = c.args.j in
    let c0 : j < length k = search rules in
    let c1 : 4 + j < length k = search rules in
    let c2 : 8 + j < length k = search rules in
    let x = number c.args.x in
    let y = number c.args.y in
    let z = number c.args.z in
    let a = number (get_or k j 0) in
    let b = number (get_or k (4 + j) 0) in
    let d = number (get_or k (8 + j) 0) in
    let last = at (map number k) (12 + j) in
    again w32 _ c.rounded_sum.type_inv ∙ c.rounded_sum.ensures
    ∙ by_sum (x *ℤ a +ℤ y *ℤ b +ℤ z *ℤ d) c.three_products.ensures.result_value
    ∙ entry-three x y z a b d last
    ∙ sym
    (λ t. entry x y z (pos 0) (at-number k j c0 t) (at-number k (4 + j) c1 t) (at-number k (8 + j) c2 t) last)
