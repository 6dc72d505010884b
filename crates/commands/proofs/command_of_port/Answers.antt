use mathlib.Core.Path.{◌≡◌}
use Prim.Native.Nat.{◌+◌, ◌*◌, ◌<◌}
use native.Mathlib.Omega.{arith}
use Rattle.commands.specs.Commands.{port, command_at}
use Rattle.commands.proofs.Table.{known-range}
use Rattle.commands.proofs.Commands.{port_of_command}
use Rattle.commands.proofs.command_of_port.Goals as goal
use Rattle.commands.proofs.command_of_port.Goals.{Start}

-- the address is the port of a byte
is-port : (c : Start)
    → (c.args.address ≡ 0x04000400 + 4 * command_at c.args.address) × (command_at c.args.address < 256)
unfolding port
is-port c =
    let p = port_of_command c.args.address c.requires in
    (p.is-port, (known-range _ p.is_known).1)

pub overflow_sub-result : goal.overflow_sub-result
overflow_sub-result c = omega (arith, is-port c)

pub overflow_cast-result : goal.overflow_cast-result
overflow_cast-result c = omega (arith, is-port c)

pub returns : goal.returns
returns c = omega (arith, is-port c)
