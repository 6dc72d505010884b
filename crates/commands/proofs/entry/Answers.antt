use mathlib.Core.Path.{refl}
use Rattle.commands.specs.Commands.{command_rows, lookup, parameter_table}
use Rattle.commands.proofs.entry.Goals as goal

pub returns : goal.returns
unfolding parameter_table lookup command_rows
returns c = refl
