use Prim.Native.Nat.{◌-◌}
use lib.ListN.{length}
use Rattle.packer.specs.Inside.{writes_of}
use Rattle.packer.proofs.GroupLaws.{Measuring}
use Rattle.packer.proofs.measure.Given as goal

abbrev pub invariant-loop-next : goal.invariant-loop-next
invariant-loop-next l = Measuring (writes_of l.log) l.next l.total

abbrev pub decreases-loop-next : goal.decreases-loop-next
decreases-loop-next l = length l.log - l.next
