use mir.Syntax.{w32}
use Rattle.lowbits.proofs.Elements.{element}
use Rattle.registers.specs.Registers.{corner}
use Rattle.registers.proofs.corner_of.Goals as goal

pub returns : goal.returns
unfolding corner
returns c =
    simp (element w32 c.args.m _ c.well_formed.0.1.1)
