use mathlib.Core.List.{map}
use mathlib.Core.Path.{ap}
use Rattle.commands.specs.Commands.{counted, command_bytes}
use Rattle.commands.proofs.Commands.{le_bytes}
use Rattle.commands.proofs.command_bytes.Goals as goal

pub returns : goal.returns
unfolding command_bytes
returns c =
    rw (c.counted.ensures, c.counted-2.ensures, c.counted-3.ensures, c.counted-4.ensures, c.to_le_bytes.ensures)
    (ap (map counted) (le_bytes c.args.word))
