use Prim.Native.Nat.{◌≤◌}
use native.Mathlib.Omega.{arith}
use lib.ListN.{get_or}
use Rattle.unpacker.proofs.ExtentLaws.{Extends, extends, has-hole}
use Rattle.unpacker.proofs.MeasureLaws.{measure_start, total_small, measure_end, measure_hole}
use Rattle.unpacker.proofs.MeasureLaws.{measure_short, word_small, measure_more}
use Rattle.stream.specs.Input.{longest_log}
use Rattle.unpacker.proofs.measure.Goals as goal
use Rattle.unpacker.proofs.measure.Goals.{In-Some}

pub loop-i-init : goal.loop-i-init
loop-i-init c = measure_start c.args.words.now c.args.place c.requires

pub returns-in_default : goal.returns-in_default
returns-in_default c =
    rw c.refused_at.ensures (measure_hole c.loop-i.invariant c.loop-i-test.true (has-hole _ c.in_default.ensures))

-- what the word's commands take
taken : (c : In-Some) → Extends (get_or c.args.words.now c.loop-i.i 0) c.in-Some.extent
taken c = extends _ c.in-Some.extent c.in-Some.ensures

pub returns-then-words-next : goal.returns-then-words-next
returns-then-words-next c =
    rw c.refused_at-then-words-next.ensures
    (measure_short c.loop-i.invariant c.loop-i-test.true c.in-Some.extent
    (taken (goal.at.returns-then-words-next c).In-Some) (omega (arith, c.if-words-next.true)))

-- its port writes and those before it are few
small : (c : In-Some) → (c.in-Some.extent.writes ≤ 132) × (c.loop-i.total ≤ longest_log)
small c = ((word_small c.loop-i.invariant c.loop-i-test.true c.in-Some.extent (taken c)).1, total_small c.loop-i.invariant)

pub overflow_mul-total : goal.overflow_mul-total
overflow_mul-total c = omega (arith, small (goal.at.overflow_mul-total c).In-Some)

pub overflow_add-total : goal.overflow_add-total
overflow_add-total c = omega (arith, small (goal.at.overflow_add-total c).In-Some)

pub loop-i-preserved : goal.loop-i-preserved
loop-i-preserved c =
    measure_more c.loop-i.invariant c.loop-i-test.true c.in-Some.extent (taken (goal.at.loop-i-preserved c).In-Some)
    (omega (arith, c.if-words-next.false))

pub returns : goal.returns
returns c = measure_end c.loop-i.invariant c.loop-i-test.false
