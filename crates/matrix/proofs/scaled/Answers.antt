use mathlib.Core.Path.{◌∙◌}
use lib.IntN.{◌*ℤ◌}
use mir.Facts.{to_z-of_z}
use mir.Syntax.{w32}
use Rattle.lowbits.specs.Bits.{low_bits}
use Rattle.lowbits.proofs.Read.{again}
use Rattle.products.specs.Inside.{number}
use Rattle.matrix.proofs.Rows.{by_sum}
use Rattle.matrix.proofs.scaled.Goals as goal

pub returns : goal.returns
returns c =
    let n = number c.args.n in
    let a = c.offset.ensures ∙ to_z-of_z c.ranges.a in
    again w32 _ c.rounded_sum.type_inv ∙ c.rounded_sum.ensures
    ∙ by_sum (n *ℤ c.args.a) (c.one_product.ensures ∙ (λ t. low_bits 48 (n *ℤ a t)))
