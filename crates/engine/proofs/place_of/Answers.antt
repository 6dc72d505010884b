use mathlib.Core.Path.{sym, ◌∙◌}
use borrow.Author.Tests.{ne_eqb}
use Rattle.stream.specs.Feed.{place_of}
use Rattle.stream.specs.Refusal.{call_number}
use Rattle.stream.proofs.RefusalLaws.{some_number, none-number}
use Rattle.engine.proofs.place_of.Goals as goal

pub returns-then-is_some : goal.returns-then-is_some
unfolding place_of
returns-then-is_some c =
    rw (ne_eqb (call_number c.args.refusal) 0 (some_number c.args.refusal (sym c.is_some.ensures ∙ c.if-is_some.true)))

pub returns-else-is_some : goal.returns-else-is_some
unfolding place_of
returns-else-is_some c = rw (none-number c.args.refusal (sym c.is_some.ensures ∙ c.if-is_some.false))
