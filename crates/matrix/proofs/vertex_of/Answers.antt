use mathlib.Core.Path.{◌∙◌, ap}
use Prim.Native.Nat.{◌+◌, ◌/◌, ◌^◌}
use lib.IntN.{ℤ, pos, ◌+ℤ◌, ◌*ℤ◌}
use mir.Facts.{to_z-of_z}
use mir.Syntax.{w32}
use Rattle.lowbits.specs.Bits.{low_bits, signed_low}
use Rattle.lowbits.proofs.Laws.{wraps}
use Rattle.lowbits.proofs.Read.{again}
use Rattle.products.specs.Inside.{sum_of}
use Rattle.products.proofs.Sums.{first}
use Rattle.matrix.specs.Matrix.{entry, at}
use Rattle.matrix.proofs.Rows.{by_sum_plus}
use borrow.Author.Rules.{rules}
use Rattle.matrix.proofs.vertex_of.Goals as goal

pub returns : goal.returns
unfolding entry
returns c =
    let m = c.args.clip in
    let j = c.args.j in
    let p = c.args.x *ℤ at m j in
    let q = c.args.y *ℤ at m (4 + j) in
    let r = c.args.z *ℤ at m (8 + j) in
    let one =
    first _ c.plus_short-s.ensures.result_value c.no_product.ensures.0
    ∙ (λ t. low_bits 48 (to_z-of_z c.ranges.x t *ℤ again w32 (at m j) (search rules) t)) in
    let two =
    wraps 48 p q c.plus_short.ensures.result_value one
    (λ t. low_bits 48 (to_z-of_z c.ranges.y t *ℤ again w32 (at m (4 + j)) (search rules) t)) in
    let three =
    wraps 48 (p +ℤ q) r c.plus_short-t.ensures.result_value two
    (λ t. low_bits 48 (to_z-of_z c.ranges.z t *ℤ again w32 (at m (8 + j)) (search rules) t)) in
    again w32 _ c.rounded_plus.type_inv ∙ c.rounded_plus.ensures
    ∙ ap (λ (d : ℤ). signed_low 32 (pos (sum_of c.plus_short-t.result / 2 ^ 12) +ℤ d))
    (again w32 (at m (12 + j)) (search rules))
    ∙ by_sum_plus (p +ℤ q +ℤ r) (at m (12 + j)) three
