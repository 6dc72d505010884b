use Prim.Native.Nat.{◌-◌}
use lib.ListN.{length}
use Rattle.unpacker.proofs.MeasureLaws.{Measuring}
use Rattle.unpacker.proofs.measure.Given as goal

abbrev pub invariant-loop-i : goal.invariant-loop-i
invariant-loop-i l = Measuring l.words l.place l.i l.total

abbrev pub decreases-loop-i : goal.decreases-loop-i
decreases-loop-i l = length l.words - l.i
