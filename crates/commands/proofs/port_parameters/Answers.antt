use mathlib.Core.Path.{sym, ap, ◌∙◌}
use Rattle.commands.specs.Commands.{lookup}
use Rattle.commands.proofs.Commands.{below_ports, between_ports, at_byte, counted-far, lookup-counted}
use Rattle.commands.proofs.Commands.{lookup-none}
use Rattle.commands.proofs.port_parameters.Goals as goal

pub returns-then-address-lt-PORTS : goal.returns-then-address-lt-PORTS
returns-then-address-lt-PORTS c = sym (lookup-none _ (below_ports _ c.if-address-lt-PORTS.true))

pub returns-then-d-ne0 : goal.returns-then-d-ne0
returns-then-d-ne0 c = sym (lookup-none _ (between_ports _ c.if-d-ne0.true))

pub returns-then-c-gt255 : goal.returns-then-c-gt255
returns-then-c-gt255 c =
    sym (lookup-none _
    (at_byte _ c.if-address-lt-PORTS.false c.if-d-ne0.false ∙ counted-far _ c.if-c-gt255.true))

pub returns : goal.returns
returns c =
    c.parameters.ensures
    ∙ sym (ap lookup (at_byte _ c.if-address-lt-PORTS.false c.if-d-ne0.false)
    ∙ lookup-counted _)
