use Rattle.std.proofs.Common.{◌≡◌, ℕ, ◌/◌, ◌^◌, ◌<◌, pos, sym, ap, ◌∙◌, arith, w16}
use Rattle.std.specs.Prelude.{Option, None, Some, SomeIff}
use Rattle.std.specs.Option.{unwrap_or}
use Rattle.lowbits.specs.Bits.{floor_bits, signed_low}
use Rattle.lowbits.proofs.Laws.{floor_none}
use Rattle.lowbits.proofs.Read.{again}
use Rattle.lowbits.proofs.field.Goals as goal

-- a word's bits from a place on
from_place : (r : Option ℕ) (word at : ℕ) → word < 2 ^ 32 → SomeIff r (at < 32) (word / 2 ^ at)
    → pos (unwrap_or r 0) ≡ floor_bits at (pos word)
unfolding floor_bits
from_place None word at h e = sym (floor_none 32 at word h (omega (arith, e)))
from_place (Some x) word at h e = ap pos e.1

pub returns : goal.returns
returns g c =
    again w16 _ c.signed_low.type_inv ∙ c.signed_low.ensures
    ∙ ap (signed_low g.row.WIDTH)
    (ap pos c.unwrap_or.ensures ∙ from_place c.checked_shr.result c.args.word c.args.at c.ranges.word.fits c.checked_shr.ensures)
