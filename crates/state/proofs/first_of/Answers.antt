use borrow.Author.Tests.{eq-eqb, ne_eqb}
use Rattle.state.proofs.first_of.Goals as goal

pub returns-then-next-eq0 : goal.returns-then-next-eq0
returns-then-next-eq0 c = simp (eq-eqb _ _ c.if-next-eq0.true)

pub returns-else-next-eq0 : goal.returns-else-next-eq0
returns-else-next-eq0 c = simp (ne_eqb _ _ c.if-next-eq0.false)
