use Prim.Native.Nat.{◌-◌}
use lib.ListN.{length}
use Rattle.packer.specs.Inside.{writes_of}
use Rattle.packer.proofs.PutLaws.{PuttingLog}
use Rattle.packer.proofs.put_log.Given as goal

abbrev pub invariant-loop-next : goal.invariant-loop-next
invariant-loop-next l = PuttingLog (writes_of l.log) l.initial.buffer l.next l.to l.buffer

abbrev pub decreases-loop-next : goal.decreases-loop-next
decreases-loop-next l = length l.log - l.next
