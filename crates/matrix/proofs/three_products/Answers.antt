use mathlib.Core.Path.{refl}
use lib.IntN.{◌+ℤ◌, ◌*ℤ◌}
use Rattle.lowbits.proofs.Laws.{wraps}
use Rattle.products.specs.Inside.{number}
use Rattle.products.proofs.Sums.{first}
use Rattle.matrix.proofs.three_products.Goals as goal

pub returns-clause-result_value : goal.returns-clause-result_value
returns-clause-result_value c =
    let p = number c.args.x *ℤ number c.args.a in
    let q = number c.args.y *ℤ number c.args.b in
    let r = number c.args.z *ℤ number c.args.c in
    let one = first p c.plus_product.ensures.result_value c.no_product.ensures.0 in
    let two = wraps 48 p q c.plus_product-2.ensures.result_value one refl in
    wraps 48 (p +ℤ q) r c.plus_product-3.ensures.result_value two refl
