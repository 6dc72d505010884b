use Rattle.std.proofs.Common.{ℕ, ◌%◌, ◌^◌, ap, ◌∙◌, to_z-of_z}
use Rattle.lowbits.specs.Bits.{low_bits}
use Rattle.lowbits.proofs.Laws.{low-low}
use Rattle.products.proofs.below_bit_16.Goals as goal

pub returns : goal.returns
returns c =
    c.low_half.ensures
    ∙ ap (λ (n : ℕ). n % 2 ^ 16) (c.bits32.ensures ∙ ap (low_bits 32) (to_z-of_z c.ranges.a))
    ∙ low-low 16 16 c.args.a
