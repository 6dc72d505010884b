use lib.ListN.{length}
use Rattle.turns.specs.Inside.{to_come, items_in}
use Rattle.feeding.proofs.Looping.{Feeding}
use Rattle.feeding.proofs.run_turns.Given as goal

abbrev pub invariant-loop-command : goal.invariant-loop-command
invariant-loop-command l =
    Feeding l.initial.engine l.initial.vertices l.initial.polygons l.form l.packed l.words l.taken l.begun
    l.engine.stream.held l.engine.core l.vertices l.polygons l.clip

abbrev pub decreases-loop-command : goal.decreases-loop-command
decreases-loop-command l = to_come (items_in l.form (length l.words)) l.taken l.begun
