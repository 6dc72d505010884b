use mathlib.Core.Path.{refl}
use Rattle.commands.specs.Commands.{port}
use Rattle.commands.proofs.port_of.Goals as goal

pub returns : goal.returns
unfolding port
returns c = refl
