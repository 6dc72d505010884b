use native.Mathlib.Nat.{add-zero}
use Rattle.registers.specs.Registers.{status_word}
use Rattle.registers.proofs.status_word.Goals as goal

pub returns-then-t : goal.returns-then-t
unfolding status_word
returns-then-t c = simp c.if-t.true

pub returns-else-t : goal.returns-else-t
unfolding status_word
returns-else-t c = simp (c.if-t.false, add-zero)
