use mathlib.Core.List.{List, []}
use mathlib.Core.Path.{◌≡◌, sym, ap, ◌∙◌}
use Prim.Native.Nat.{ℕ, ◌<◌}
use native.Mathlib.Omega.{arith}
use lib.ListN.{length, get_or}
use Rattle.commands.specs.Commands.{lookup, command_at}
use Rattle.commands.proofs.Commands.{port_takes, port-unknown}
use Rattle.packer.specs.Inside.{writes_of, write_at, byte_at}
use Rattle.packer.proofs.ValueLaws.{length-writes_of, address-of}
use Rattle.packer.proofs.CommandWalk.{walk_none, walk_start, walk_short, walk_no_port, walk_other, walk_more, walk_end}
use Rattle.packer.proofs.next_command.Goals as goal
use Rattle.packer.proofs.next_command.Goals.{After-port_parameters, In-Some-get}
use Rattle.packer.proofs.next_command.Goals.{then-command_at-eq0, else-command_at-eq0}

-- what the write's address is
port : (c : After-port_parameters)
    → lookup (byte_at (writes_of c.args.log.now) c.args.next.now) ≡ c.port_parameters.result
port c =
    ap (λ x. lookup (command_at x)) (address-of c.args.log.now c.args.next.now c.requires.within)
    ∙ sym c.port_parameters.ensures

pub returns-in_default : goal.returns-in_default
returns-in_default c =
    rw c.refused_at.ensures
    (walk_none (writes_of c.args.log.now) c.args.next.now (omega (arith, length-writes_of c.args.log.now))
    (port-unknown _ (port (goal.at.returns-in_default c).After-port_parameters ∙ c.in_default.is)))

pub loop-parameter-init : goal.loop-parameter-init
loop-parameter-init c =
    let p = port (goal.at.loop-parameter-init c).After-port_parameters in
    rw (← address-of c.args.log.now c.args.next.now c.requires.within)
    (walk_start (writes_of c.args.log.now) c.args.next.now (omega (arith, length-writes_of c.args.log.now))
    (port_takes (write_at (writes_of c.args.log.now) c.args.next.now).address c.in-Some.count (p ∙ c.in-Some.is)))

pub returns-in_default-get : goal.returns-in_default-get
returns-in_default-get c =
    let n = length-writes_of c.args.log.now in
    rw c.refused_at-in_default-get.ensures
    (walk_short c.loop-parameter.invariant c.loop-parameter-test.true
    (omega (arith, n, c.in_default-get.ensures.lookup.3)))

-- the next write is there
inside : (c : In-Some-get) → c.loop-parameter.next < length (writes_of c.args.log.now)
inside c = omega (arith, length-writes_of c.args.log.now, c.in-Some-get.ensures.lookup.3.0)

-- and that is its address
address : (c : In-Some-get)
    → (write_at (writes_of c.args.log.now) c.loop-parameter.next).address ≡ get_or c.in-Some-get.field-0.now 0 0
address c =
    let there = c.in-Some-get.ensures.lookup.3 in
    address-of c.args.log.now c.loop-parameter.next there.0 ∙ ap (λ (p : List ℕ). get_or p 0 0) (sym (there.1 []))

pub returns-then-other-address : goal.returns-then-other-address
returns-then-other-address c =
    let here = (goal.at.returns-then-other-address c).In-Some-get in
    let w = c.loop-parameter.invariant in
    rw c.refused_at-then-other-address.ensures
    (elim c.if-command_at-eq0.branch [
      | then-command_at-eq0 v ↦
          rw v.refusal-is
          (walk_no_port w c.loop-parameter-test.true (inside here)
          (ap command_at (address here) ∙ sym c.command_at.ensures ∙ v.if-command_at-eq0.true))
      | else-command_at-eq0 v ↦
          rw v.refusal-is
          (walk_other w c.loop-parameter-test.true (inside here) (λ e. c.if-other-address.true (sym (address here) ∙ e))
          (λ e. v.if-command_at-eq0.false (c.command_at.ensures ∙ ap command_at (sym (address here)) ∙ e)))
    ])

pub loop-parameter-preserved : goal.loop-parameter-preserved
loop-parameter-preserved c =
    let here = (goal.at.loop-parameter-preserved c).In-Some-get in
    walk_more c.loop-parameter.invariant c.loop-parameter-test.true (inside here)
    (address here ∙ c.if-other-address.false)

pub returns : goal.returns
returns c = rw c.from.ensures (walk_end c.loop-parameter.invariant c.loop-parameter-test.false)
