use Rattle.std.proofs.Common.{sym, ap, ◌∙◌, mod-eq_of_lt, w32}
use Rattle.lowbits.specs.Bits.{low_bits, as_signed}
use Rattle.lowbits.proofs.Read.{again, reads}
use Rattle.lowbits.proofs.signed32.Goals as goal

pub returns : goal.returns
unfolding low_bits
returns c =
    again w32 _ c.cast_signed.type_inv ∙ c.cast_signed.ensures ∙ reads w32 c.args.word c.ranges.word.fits
    ∙ ap (as_signed 32) (sym (mod-eq_of_lt c.ranges.word.fits))
