use mathlib.Core.List.{[]}
use mathlib.Core.Logic.{◌⊎◌, inl, inr}
use mathlib.Core.Path.{◌≡◌, sym, ap, ◌∙◌}
use Prim.Native.Nat.{◌+◌, ◌≤◌}
use native.Mathlib.Omega.{arith}
use lib.ListN.{length, get_or}
use Rattle.commands.specs.Commands.{count, command_at}
use Rattle.packer.specs.Inside.{writes_of, byte_at}
use Rattle.packer.proofs.ValueLaws.{length-writes_of, address-of}
use Rattle.packer.proofs.PutLaws.{put_group_start, next-command, values-room}
use Rattle.packer.proofs.PutLaws.{put_group_more, Stored, stored_none, stored_some, size-room, dummy-room, put_dummy, put_plain}
use Rattle.packer.proofs.put_group.Goals as goal
use Rattle.packer.proofs.put_group.Goals.{After-count-count, Else-log-next, Left-loop-slot}
use Rattle.packer.proofs.put_group.Goals.{then-count-eq0, else-count-eq0}
use Rattle.packer.proofs.put_group.Goals.{else-loop-slot-test, then-loop-slot-test+then-log-next}

pub loop-slot-init : goal.loop-slot-init
loop-slot-init c = put_group_start c.requires

-- at a command's port
is-port : (c : Else-log-next)
    → command_at (get_or (get_or c.args.log.now c.loop-slot.next []) 0 0) ≡ 0 → ⊥
is-port c z =
    next-command c.loop-slot.invariant (omega (arith, length-writes_of c.args.log.now))
    (ap command_at (address-of c.args.log.now c.loop-slot.next c.if-log-next.false) ∙ z)

pub command_of_port-byte-requires : goal.command_of_port-byte-requires
command_of_port-byte-requires c = is-port (goal.at.command_of_port-byte-requires c).Else-log-next

-- the next command, and how many parameters it takes
byte-is : (c : After-count-count) → c.command_of_port-byte.result ≡ byte_at (writes_of c.args.log.now) c.loop-slot.next
byte-is c =
    c.command_of_port-byte.ensures
    ∙ sym (ap command_at (address-of c.args.log.now c.loop-slot.next c.if-log-next.false))

counted : (c : After-count-count)
    → c.count-count.result ≡ count (byte_at (writes_of c.args.log.now) c.loop-slot.next)
counted c = c.count-count.ensures ∙ ap count (byte-is c)

-- and there is room for them
room : (c : After-count-count)
    → let n = c.count-count.result in
    (c.loop-slot.next + n ≤ length (writes_of c.args.log.now)) × (c.loop-slot.size + n ≤ length c.loop-slot.words)
room c =
    values-room c.loop-slot.invariant (omega (arith, length-writes_of c.args.log.now)) c.loop-slot-test.true _
    (counted c)

pub overflow_add-next : goal.overflow_add-next
overflow_add-next c =
    omega (arith, room (goal.at.overflow_add-next c).After-count-count, c.requires.few)

pub overflow_add-next-else-count-eq0 : goal.overflow_add-next-else-count-eq0
overflow_add-next-else-count-eq0 c =
    omega (arith, room (goal.at.overflow_add-next-else-count-eq0 c).After-count-count, c.requires.few)

pub slice_bounds-put_values-end : goal.slice_bounds-put_values-end
slice_bounds-put_values-end c =
    omega (
      arith,
      room (goal.at.slice_bounds-put_values-end c).After-count-count,
      length-writes_of c.args.log.now,
    )

pub slice_bounds-put_values-end-else-count-eq0 : goal.slice_bounds-put_values-end-else-count-eq0
slice_bounds-put_values-end-else-count-eq0 c =
    omega (arith, room (goal.at.slice_bounds-put_values-end-else-count-eq0 c).After-count-count)

pub loop-slot-preserved : goal.loop-slot-preserved
loop-slot-preserved c =
    let here = (goal.at.loop-slot-preserved c).After-count-count in
    let n = length-writes_of c.args.log.now in
    let log : c.loop-slot.next + c.count-count.result ≤ length c.args.log.now = omega (arith, n, room here) in
    let stored : Stored (writes_of c.args.log.now) c.count-count.result c.loop-slot.next c.loop-slot.size
    c.loop-slot.words c.if-count-eq0.next c.if-count-eq0.size c.if-count-eq0.words =
    elim c.if-count-eq0.branch [
      | then-count-eq0 w ↦ stored_none w.if-count-eq0.true w.next-is w.size-is w.words-is
      | else-count-eq0 w ↦ stored_some c.args.log.now w.if-count-eq0.false log (room here).1 w.put_values.ensures w.next-is w.size-is
          w.words-is
    ] in
    put_group_more c.loop-slot.invariant (omega (arith, n)) c.loop-slot-test.true _ (counted here) stored
    (c.with_byte-word.ensures.value ∙ rw (byte-is here)) c.with_byte-word.ensures.upper_bound

-- the group is full, or the log is at its end
ways : (c : Left-loop-slot)
    → (c.loop-slot.slot ≡ 4) ⊎ (length (writes_of c.args.log.now) ≤ c.loop-slot.next)
ways c =
    let n = length-writes_of c.args.log.now in
    elim c.loop-slot-test.branch [
      | then-loop-slot-test+then-log-next w ↦ inr (omega (arith, n, w.if-log-next.true))
      | else-loop-slot-test w ↦ inl (omega (arith, w.loop-slot-test.false, c.loop-slot.invariant.taken.most))
    ]

pub bounds-words-0 : goal.bounds-words-0
bounds-words-0 c =
    omega (
      arith,
      size-room c.loop-slot.invariant (ways (goal.at.bounds-words-0 c).Left-loop-slot),
      c.loop-slot.invariant.size_is,
    )

pub bounds-words-size : goal.bounds-words-size
bounds-words-size c =
    dummy-room c.loop-slot.invariant (ways (goal.at.bounds-words-size c).Left-loop-slot) c.if-none.true

pub returns-then-none : goal.returns-then-none
returns-then-none c =
    put_dummy c.loop-slot.invariant (ways (goal.at.returns-then-none c).Left-loop-slot)
    c.if-none.true

pub returns-else-none : goal.returns-else-none
returns-else-none c =
    put_plain c.loop-slot.invariant (ways (goal.at.returns-else-none c).Left-loop-slot)
    c.if-none.false
