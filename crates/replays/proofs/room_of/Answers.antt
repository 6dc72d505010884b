use mathlib.Core.Path.{sym, ◌∙◌}
use native.Mathlib.Omega.{arith}
use Rattle.replays.proofs.ArgumentLaws.{digit-test, room-long, room-start, room_next, room-none, room_bound}
use Rattle.replays.proofs.room_of.Goals as goal

pub returns-then-digits-gt9 : goal.returns-then-digits-gt9
returns-then-digits-gt9 c = sym (room-long _ (omega arith))

pub loop-digit-init : goal.loop-digit-init
loop-digit-init c = record { small = omega arith; rest = room-start _ (omega arith) }

pub returns-then-not-is_ascii_digit : goal.returns-then-not-is_ascii_digit
returns-then-not-is_ascii_digit c =
    let none = digit-test _ c.is_ascii_digit.ensures.value ∙ c.if-not-is_ascii_digit.true in
    sym (c.loop-digit.invariant.rest ∙ room-none _ c.loop-digit.room c.loop-digit.digit-index c.loop-digit-test.true none)

pub loop-digit-preserved : goal.loop-digit-preserved
loop-digit-preserved c =
    let i = c.loop-digit.digit-index in
    let room = c.loop-digit.room in
    let digit = digit-test _ c.is_ascii_digit.ensures.value ∙ c.if-not-is_ascii_digit.false in
    let small = room_bound room _ i c.if-not-is_ascii_digit.ensures.cases.1 c.loop-digit.invariant.small in
    rw c.from.ensures
    (record {
      small = small;
      rest = c.loop-digit.invariant.rest ∙ room_next _ room i c.loop-digit-test.true digit;
    })
