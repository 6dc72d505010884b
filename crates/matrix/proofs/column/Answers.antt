use mathlib.Core.Path.{refl, sym, ◌∙◌}
use Prim.Native.Nat.{◌+◌, ◌<◌}
use lib.IntN.{◌+ℤ◌, ◌*ℤ◌}
use lib.ListN.{length, get_or}
use mir.Syntax.{w32}
use Rattle.lowbits.proofs.Laws.{wraps}
use Rattle.lowbits.proofs.Read.{again}
use Rattle.products.specs.Inside.{number}
use Rattle.matrix.specs.Matrix.{entry}
use Rattle.matrix.proofs.Arrays.{at-number}
use Rattle.matrix.proofs.Rows.{by_sum}
use borrow.Author.Rules.{rules}
use Rattle.matrix.proofs.column.Goals as goal

pub returns : goal.returns
unfolding entry
returns c =
    let k = c.args.c in
    let j = c.args.j in
    let c0 : j < length k = search rules in
    let c1 : 4 + j < length k = search rules in
    let c2 : 8 + j < length k = search rules in
    let c3 : 12 + j < length k = search rules in
    let x = number c.args.x in
    let y = number c.args.y in
    let z = number c.args.z in
    let w = number c.args.w in
    let three = x *ℤ number (get_or k j 0) +ℤ y *ℤ number (get_or k (4 + j) 0) +ℤ z *ℤ number (get_or k (8 + j) 0) in
    let fourth = w *ℤ number (get_or k (12 + j) 0) in
    again w32 _ c.rounded_sum.type_inv ∙ c.rounded_sum.ensures
    ∙ by_sum (three +ℤ fourth)
    (wraps 48 three fourth c.plus_product.ensures.result_value c.three_products-three.ensures.result_value refl)
    ∙ sym
    (λ t. entry x y z w (at-number k j c0 t) (at-number k (4 + j) c1 t) (at-number k (8 + j) c2 t)
    (at-number k (12 + j) c3 t))
