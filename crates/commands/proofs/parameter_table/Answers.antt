use mathlib.Core.Path.{refl}
use Rattle.commands.specs.Commands.{command_rows, lookup, parameter_table}
use Rattle.commands.proofs.Table.{same, same_eq}
use Rattle.commands.proofs.parameter_table.Goals as goal

pub returns : goal.returns
unfolding parameter_table lookup command_rows same
returns c = same_eq _ parameter_table refl
