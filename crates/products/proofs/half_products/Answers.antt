use Rattle.std.proofs.Common.{◌+◌, ◌*◌, ◌/◌, ◌%◌, ◌^◌, sym, ◌∙◌, ap₂, div-add-mod'}
use Rattle.lowbits.proofs.Halves.{four}
use Rattle.products.proofs.half_products.Goals as goal

pub returns : goal.returns
returns c =
    let x = c.args.x in
    let a = c.args.a in
    let K = 2 ^ 16 in
    ap₂ ◌*◌ (sym (div-add-mod' x K)) (sym (div-add-mod' a K)) ∙ four (x / K) (x % K) (a / K) (a % K) K
    ∙ sym
    (λ t. (c.half_product.ensures ∙ ap₂ ◌*◌ c.high_half-x_high.ensures c.high_half-a_high.ensures) t * 2 ^ 32
    + ((c.half_product-2.ensures ∙ ap₂ ◌*◌ c.high_half-x_high.ensures c.low_half-a_low.ensures) t
    + (c.half_product-3.ensures ∙ ap₂ ◌*◌ c.high_half-a_high.ensures c.low_half-x_low.ensures) t) * 2 ^ 16
    + (c.half_product-4.ensures ∙ ap₂ ◌*◌ c.low_half-x_low.ensures c.low_half-a_low.ensures) t)
