use Rattle.listing.specs.Buffer.{with_bytes}
use Rattle.listing.proofs.PutLaws.{stored}
use Rattle.listing.proofs.Text.put.Goals as goal

pub returns : goal.returns
unfolding with_bytes
returns c =
    rw (stored c.args.self.now.buffer.now c.args.bytes.now c.copy_from_slice.new.self c.args.self.now.length
    c.requires c.copy_from_slice.ensures.after)
