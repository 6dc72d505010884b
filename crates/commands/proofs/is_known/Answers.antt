use mathlib.Core.Path.{ap, ◌∙◌}
use Rattle.std.specs.Prelude.{is_some}
use Rattle.commands.specs.Commands.{known}
use Rattle.commands.proofs.is_known.Goals as goal

pub returns : goal.returns
unfolding known
returns c = c.is_some.ensures ∙ ap is_some c.parameters.ensures
