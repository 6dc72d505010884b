use Rattle.std.proofs.Common.{◌≡◌, take}
use Rattle.listing.specs.Buffer.{with_bytes}
use Rattle.readout.specs.Numbers.{spaced}
use Rattle.readout.proofs.put_spaced.Given as goal

abbrev pub invariant-loop-number : goal.invariant-loop-number
invariant-loop-number l = l.text ≡ with_bytes l.initial.text (spaced (take l.number-index l.numbers))
