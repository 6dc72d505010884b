use mathlib.Core.Path.{refl, sym, ◌∙◌}
use Prim.Native.Nat.{◌+◌, ◌-◌, ◌*◌, ◌/◌, ◌≤◌, ◌<◌}
use native.Mathlib.Omega.{arith}
use lib.ListN.{length, get_or}
use Rattle.commands.specs.Commands.{count}
use Rattle.commands.proofs.Table.{count_small}
use Rattle.stream.specs.Command.{write}
use Rattle.stream.specs.Read.{writes}
use Rattle.stream.proofs.UnpackLaws.{length-writes}
use Rattle.turns.proofs.HeldLaws.{held_one}
use Rattle.turns.proofs.WriteTurn.{write-is, held-fewer, write-none, write-last, write-more}
use Rattle.turns.proofs.values_turn.Goals as goal
use Rattle.turns.proofs.values_turn.Goals.{After-hold_writes-many, Else-takes-eq0}

-- the command takes parameters, and lacks some
takes : (c : Else-takes-eq0) → 1 ≤ count c.args.byte
takes c = omega (arith, c.count-takes.ensures, c.if-takes-eq0.false)

few : (c : Else-takes-eq0) → c.args.b.count < c.count-takes.result
few c = omega (arith, c.count-takes.ensures, held-fewer c.requires.writable (takes c))

room : (c : Else-takes-eq0) → c.count-takes.result ≤ 32
room c = omega (arith, c.count-takes.ensures, count_small c.args.byte)

pub returns-then-takes-eq0-clause-turned : goal.returns-then-takes-eq0-clause-turned
returns-then-takes-eq0-clause-turned c =
    write-none c.requires.writable (sym c.count-takes.ensures ∙ c.if-takes-eq0.true)

pub overflow_sub-lacks : goal.overflow_sub-lacks
overflow_sub-lacks c = omega (arith, few (goal.at.overflow_sub-lacks c).Else-takes-eq0)

pub offset_bounds-held-b : goal.offset_bounds-held-b
offset_bounds-held-b c =
    let at = (goal.at.offset_bounds-held-b c).Else-takes-eq0 in omega (arith, few at, room at)

pub bounds-held-b : goal.bounds-held-b
bounds-held-b c = let at = (goal.at.bounds-held-b c).Else-takes-eq0 in omega (arith, few at, room at)

pub returns-then-lacks-eq1-clause-turned : goal.returns-then-lacks-eq1-clause-turned
returns-then-lacks-eq1-clause-turned c =
    let t = c.requires.writable in
    let at = (goal.at.returns-then-lacks-eq1-clause-turned c).Else-takes-eq0 in
    let there : c.args.i < length (writes c.args.log.now) = omega (arith, t.inside, length-writes c.args.log.now) in
    write-last t (takes at) 1 (omega arith) (omega (arith, t.inside))
    (held_one there (write 0 0) (get_or c.args.log.now (2 * c.args.i + 1) 0) (write-is c.args.log.now c.args.i t.inside))
    (omega (arith, few at))

pub hold_writes-many-requires-clause-most_in_bounds : goal.hold_writes-many-requires-clause-most_in_bounds
hold_writes-many-requires-clause-most_in_bounds c =
    let at = (goal.at.hold_writes-many-requires-clause-most_in_bounds c).Else-takes-eq0 in
    (omega (arith, c.requires.writable.inside, c.min-most.ensures), omega (arith, few at, room at, c.min-most.ensures))

pub hold_writes-many-requires-clause-le_most : goal.hold_writes-many-requires-clause-le_most
hold_writes-many-requires-clause-le_most c =
    let at = (goal.at.hold_writes-many-requires-clause-le_most c).Else-takes-eq0 in
    (omega (arith, c.requires.writable.inside, few at, c.min-most.ensures), refl)

-- the writes that are held are there, and no more than are lacking
inside : (c : After-hold_writes-many) → c.args.i + c.hold_writes-many.result ≤ length c.args.log.now / 2
inside c = omega (arith, c.requires.writable.inside, c.hold_writes-many.ensures.lower_bound.1, c.min-most.ensures)

lacking : (c : After-hold_writes-many) → c.hold_writes-many.result ≤ c.count-takes.result - c.args.b.count
lacking c = omega (arith, c.hold_writes-many.ensures.lower_bound.1, c.min-most.ensures)

pub returns-then-many-lacks-clause-turned : goal.returns-then-many-lacks-clause-turned
returns-then-many-lacks-clause-turned c =
    let at = goal.at.returns-then-many-lacks-clause-turned c in
    write-last c.requires.writable (takes at.Else-takes-eq0) _ c.hold_writes-many.ensures.lower_bound.0
    (inside at.After-hold_writes-many) c.hold_writes-many.ensures.held (omega (arith, few at.Else-takes-eq0))

pub returns-clause-turned : goal.returns-clause-turned
returns-clause-turned c =
    let at = goal.at.returns-clause-turned c in
    write-more c.requires.writable (takes at.Else-takes-eq0) _ c.hold_writes-many.ensures.lower_bound.0
    (inside at.After-hold_writes-many) c.hold_writes-many.ensures.held
    (omega (arith, few at.Else-takes-eq0, lacking at.After-hold_writes-many))
