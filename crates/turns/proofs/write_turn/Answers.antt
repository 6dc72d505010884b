use mathlib.Core.Path.{sym, ◌∙◌}
use Prim.Native.Nat.{◌/◌, ◌^◌, ◌<◌}
use native.Mathlib.Omega.{arith}
use lib.ListN.{length}
use Rattle.turns.proofs.WriteTurn.{write_ended, write_no_port, write-packed, write_other}
use borrow.Author.Rules.{rules}
use Rattle.turns.proofs.write_turn.Goals as goal
use Rattle.turns.proofs.write_turn.Goals.{Else-log-i}

-- a write is there
inside : (c : Else-log-i) → c.args.i < length c.args.log.now / 2
inside c = omega (arith, c.if-log-i.false)

pub returns-then-log-i-clause-turned : goal.returns-then-log-i-clause-turned
returns-then-log-i-clause-turned c =
    rw c.ends.ensures
    (write_ended _ c.args.log.now _ _ c.requires.fit.0 c.requires.not_due.0 c.requires.fit.1 c.if-log-i.true)

pub returns-then-byte-eq0-clause-turned : goal.returns-then-byte-eq0-clause-turned
returns-then-byte-eq0-clause-turned c =
    let here = inside (goal.at.returns-then-byte-eq0-clause-turned c).Else-log-i in
    rw c.ends-then-byte-eq0.ensures
    (write_no_port _ c.args.log.now _ _ c.requires.fit.0 c.requires.not_due.0 here _ c.command_at-byte.ensures
    c.if-byte-eq0.true)

pub returns-then-packed-clause-turned : goal.returns-then-packed-clause-turned
returns-then-packed-clause-turned c =
    let here = inside (goal.at.returns-then-packed-clause-turned c).Else-log-i in
    let fits : c.args.b.queue < 2 ^ 32 = search rules in
    rw c.ends-then-packed.ensures
    (write-packed _ c.args.log.now _ _ c.requires.fit.0 c.requires.not_due.0 here _ c.command_at-byte.ensures
    c.if-byte-eq0.false fits (sym c.requires.not_due.1 ∙ c.if-packed.true))

pub returns-then-b-byte-clause-turned : goal.returns-then-b-byte-clause-turned
returns-then-b-byte-clause-turned c =
    let here = inside (goal.at.returns-then-b-byte-clause-turned c).Else-log-i in
    rw c.ends-then-b-byte.ensures
    (write_other _ c.args.log.now _ _ c.requires.fit.0 c.requires.not_due.0 here _ c.command_at-byte.ensures
    c.if-byte-eq0.false (sym c.requires.not_due.1 ∙ c.if-packed.false)
    c.if-b-ne0.true c.if-b-byte.true)
