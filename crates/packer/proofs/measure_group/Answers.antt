use mathlib.Core.Logic.{◌⊎◌, inl, inr}
use mathlib.Core.Path.{◌≡◌}
use Prim.Native.Nat.{◌≤◌}
use native.Mathlib.Omega.{arith}
use lib.ListN.{length}
use Rattle.std.proofs.lemmas.Result.{err_from_is_err_and}
use Rattle.stream.proofs.PackLaws.{one-most}
use Rattle.packer.specs.Inside.{writes_of}
use Rattle.packer.proofs.ValueLaws.{length-writes_of}
use Rattle.packer.proofs.GroupLaws.{group-start, group-bounds, group-more-fits, group-more}
use Rattle.packer.proofs.GroupLaws.{group-stopped, one-if, group-end}
use Rattle.packer.proofs.measure_group.Goals as goal
use Rattle.packer.proofs.measure_group.Goals.{else-loop-slot-test, then-loop-slot-test+then-log-next}

pub loop-slot-init : goal.loop-slot-init
loop-slot-init c =
    group-start (writes_of c.args.log.now) c.args.next.now (omega (arith, length-writes_of c.args.log.now))

pub returns-in_err-count : goal.returns-in_err-count
returns-in_err-count c =
    let p = err_from_is_err_and c.from_residual.result c.from_residual.ensures.1 in
    rw (p.1, p.2) (group-stopped c.loop-slot.invariant _ c.in_err-count.ensures)

pub overflow_add-size : goal.overflow_add-size
overflow_add-size c = omega (arith, group-more-fits c.loop-slot.invariant c.in_ok-count.ensures)

pub loop-slot-preserved : goal.loop-slot-preserved
loop-slot-preserved c =
    group-more c.loop-slot.invariant c.in_ok-count.ensures c.loop-slot-test.true

pub overflow_add-result-2 : goal.overflow_add-result-2
overflow_add-result-2 c =
    omega (arith, group-bounds c.loop-slot.invariant, c.from.ensures, one-if c.loop-slot.none, one-most c.loop-slot.none)

pub returns : goal.returns
returns c =
    let n = length-writes_of c.args.log.now in
    let way : (c.loop-slot._slot ≡ 4) ⊎ (length (writes_of c.args.log.now) ≤ c.loop-slot.next) =
    elim c.loop-slot-test.branch [
      | then-loop-slot-test+then-log-next w ↦ inr (omega (arith, n, w.if-log-next.true))
      | else-loop-slot-test w ↦ inl (omega (arith, w.loop-slot-test.false, group-bounds c.loop-slot.invariant))
    ] in
    rw (c.from.ensures, one-if) (group-end c.loop-slot.invariant way)
