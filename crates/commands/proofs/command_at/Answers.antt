use mathlib.Core.Path.{sym, ◌∙◌}
use Rattle.commands.proofs.Commands.{port_takes, port-unknown}
use Rattle.commands.proofs.command_at.Goals as goal

pub command_of_port-requires : goal.command_of_port-requires
command_of_port-requires c =
    (port_takes _ _ (sym c.port_parameters.ensures ∙ c.in-Some.is)).0

pub returns-in-None : goal.returns-in-None
returns-in-None c =
    sym (port-unknown _ (sym c.port_parameters.ensures ∙ c.in-None.is))
