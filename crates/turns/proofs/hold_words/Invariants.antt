use Rattle.turns.specs.Inside.{Held}
use Rattle.turns.proofs.hold_words.Given as goal

abbrev pub invariant-loop-j : goal.invariant-loop-j
invariant-loop-j l = Held (λ w. w) l.words l.i l.initial.held l.count l.held l.j
