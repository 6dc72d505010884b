use mathlib.Core.Path.{sym, ◌∙◌}
use Rattle.commands.proofs.Commands.{counted-known, counted-unknown}
use Rattle.commands.proofs.counted.Goals as goal

pub returns-then-is_known : goal.returns-then-is_known
returns-then-is_known c = sym (counted-known _ (sym c.is_known.ensures ∙ c.if-is_known.true))

pub returns-else-is_known : goal.returns-else-is_known
returns-else-is_known c = sym (counted-unknown _ (sym c.is_known.ensures ∙ c.if-is_known.false))
