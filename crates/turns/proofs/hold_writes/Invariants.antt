use Rattle.stream.specs.Command.{write}
use Rattle.stream.specs.Read.{writes}
use Rattle.turns.specs.Inside.{Held}
use Rattle.turns.proofs.hold_writes.Given as goal

abbrev pub invariant-loop-j : goal.invariant-loop-j
invariant-loop-j l = Held (write l.address) (writes l.log) l.i l.initial.held l.count l.held l.j
