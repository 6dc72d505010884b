use Rattle.std.proofs.Common.{◌≡◌, ℕ, ◌+◌, ◌%◌, ◌^◌, ◌<◌, pos, ◌*ℤ◌, sym, ap, ◌∙◌, subst, arith, to_z-of_z, w32, to_z}
use mir.Facts.{to_z_pos}
use Rattle.lowbits.specs.Bits.{floor_bits, low_bits}
use Rattle.lowbits.proofs.Laws.{low-lt}
use Rattle.lowbits.proofs.Read.{again}
use Rattle.products.specs.Inside.{held}
use Rattle.products.proofs.Sums.{plus-short}
use Rattle.products.proofs.plus_short.Goals as goal
use Rattle.products.proofs.plus_short.Goals.{After-below_bit_16}

-- a lower half cast to i32
natural : (n : ℕ) → n < 2 ^ 16 → to_z w32 n ≡ pos n
natural n h = to_z_pos w32 (omega arith)

module _ (c : After-below_bit_16) where
  lower-half : c.below_bit_16.result ≡ low_bits 16 c.args.a
  lower-half = c.below_bit_16.ensures ∙ ap (low_bits 16) (to_z-of_z c.ranges.a)

  below : c.below_bit_16.result < 2 ^ 16
  below = subst (λ (n : ℕ). n < 2 ^ 16) (sym lower-half) (low-lt 16 c.args.a)

pub returns-clause-result_value : goal.returns-clause-result_value
returns-clause-result_value c =
    let v = c.args in
    let f = c.ranges in
    let s = v.s in
    let high =
    again w32 _ c.from_bit_16.type_inv ∙ c.from_bit_16.ensures.0 ∙ ap (floor_bits 16) (to_z-of_z f.a) in
    let upper =
    again w32 _ c.short_product-h.type_inv ∙ c.short_product-h.ensures ∙ (λ t. to_z-of_z f.x t *ℤ high t) in
    let lower =
    again w32 _ c.short_product-l.type_inv ∙ c.short_product-l.ensures
    ∙ (λ t. to_z-of_z f.x t *ℤ (natural _ (below (goal.at.returns-clause-result_value c).After-below_bit_16) ∙ ap pos (lower-half (goal.at.returns-clause-result_value c).After-below_bit_16)) t) in
    let carried =
    again w32 _ c.from_bit_16-2.type_inv ∙ c.from_bit_16-2.ensures.0 ∙ ap (floor_bits 16) lower in
    let middle =
    c.add3.ensures
    ∙ (λ t. (s.middle + (c.bits32.ensures ∙ ap (low_bits 32) upper) t
    + (c.bits32-2.ensures ∙ ap (low_bits 32) carried) t) % 2 ^ 32) in
    let low = c.below_bit_16-2.ensures ∙ ap (low_bits 16) lower in
    (λ t. held s.upper (middle t) (s.lower + low t) s.factors)
    ∙ plus-short v.x v.a s.upper s.middle s.lower s.factors
