use Rattle.packer.specs.Inside.{writes_of}
use Rattle.packer.proofs.PutLaws.{PuttingGroup}
use Rattle.packer.proofs.put_group.Given as goal

abbrev pub invariant-loop-slot : goal.invariant-loop-slot
invariant-loop-slot l =
    PuttingGroup (writes_of l.log) l.initial.next l.initial.words l.next l.slot l.word l.size l.none l.words
