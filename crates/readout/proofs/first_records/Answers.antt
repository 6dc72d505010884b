use Rattle.readout.proofs.ChunkLaws.{first-are}
use Rattle.readout.proofs.first_records.Goals as goal

pub returns-clause-records : goal.returns-clause-records
returns-clause-records g c =
    rw c.as_chunks.ensures.front
    (first-are g.row.N c.args.count c.args.buffer.now c.requires.width c.requires.holds)
