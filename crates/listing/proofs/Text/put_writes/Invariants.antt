use Rattle.std.proofs.Common.{◌≡◌, take}
use Rattle.listing.specs.Text.{lines_of}
use Rattle.listing.specs.Buffer.{with_bytes}
use Rattle.listing.proofs.LineLaws.{pair_line}
use Rattle.listing.proofs.Text.put_writes.Given as goal

abbrev pub invariant-loop-address : goal.invariant-loop-address
invariant-loop-address l = l.self ≡ with_bytes l.initial.self (lines_of pair_line (take l.address-index l.pairs))
