-- What a read gives stands behind what was given before.
use Rattle.std.proofs.Common.{rules}
use Rattle.terminal.proofs.Reading.{read_more}
use Rattle.terminal.proofs.read_full.Goals as goal

pub loop-count-preserved : goal.loop-count-preserved
loop-count-preserved g c =
    (search rules, read_more _ _ _ _ _ _ _ _ c.loop-count.invariant.0 c.in_ok-read.ensures.bound.0 c.loop-count.invariant.1 c.in_ok-read.ensures.bytes.0)
