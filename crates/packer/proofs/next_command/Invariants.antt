use Rattle.packer.specs.Inside.{writes_of}
use Rattle.packer.proofs.CommandWalk.{Walking}
use Rattle.packer.proofs.next_command.Given as goal

abbrev pub invariant-loop-parameter : goal.invariant-loop-parameter
invariant-loop-parameter l = Walking (writes_of l.log) l.first l.address l.count l.next l._parameter
