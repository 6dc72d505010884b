use Rattle.packer.specs.Inside.{writes_of}
use Rattle.packer.proofs.GroupLaws.{MeasuringGroup}
use Rattle.packer.proofs.measure_group.Given as goal

abbrev pub invariant-loop-slot : goal.invariant-loop-slot
invariant-loop-slot l = MeasuringGroup (writes_of l.log) l.initial.next l.next l._slot l.size l.none
