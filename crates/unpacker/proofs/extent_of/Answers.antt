use mathlib.Core.List.{◌∷◌}
use mathlib.Core.Path.{ap, ◌∙◌}
use Prim.Native.Nat.{◌+◌}
use native.Mathlib.Omega.{arith}
use lib.ListN.{length, get_or, drop, drop_of_length-le}
use Rattle.words.proofs.Over.{drop-next}
use Rattle.stream.proofs.UnpackLaws.{writes_for_bounds}
use Rattle.unpacker.proofs.ByteLaws.{takes, no_command, dummy_word}
use Rattle.unpacker.proofs.ExtentLaws.{Extending, extent_start, extent_ended, extent_hole, extent_more, extent_end}
use Rattle.unpacker.proofs.extent_of.Goals as goal
use Rattle.unpacker.proofs.extent_of.Goals.{After-parameters, in-None, in-Some-2}

pub loop-byte-init : goal.loop-byte-init
loop-byte-init c =
    record {
      so_far = rw c.to_le_bytes-byte-items.ensures (extent_start c.args.word);
      words_few = omega arith;
      writes_few = omega arith;
    }

-- a turn begins at a byte
at-byte : (c : After-parameters)
    → Extending c.args.word
    (get_or c.to_le_bytes-byte-items.result c.loop-byte.byte-index 0
    ∷ drop (c.loop-byte.byte-index + 1) c.to_le_bytes-byte-items.result)
    c.loop-byte.words c.loop-byte.writes c.loop-byte.dummy c.loop-byte.ended
at-byte c =
    let bs = c.to_le_bytes-byte-items.result in
    let i = c.loop-byte.byte-index in
    rw (drop-next bs i 0 (omega (arith, ap length c.to_le_bytes-byte-items.ensures))) at c.loop-byte.invariant.so_far

pub returns-in-Some : goal.returns-in-Some
returns-in-Some c =
    let b = takes _ _ c.in-Some.ensures in
    let h = extent_hole (at-byte (goal.at.returns-in-Some c).After-parameters) b.0 c.if-ended.true in
    rw h

pub overflow_add-writes : goal.overflow_add-writes
overflow_add-writes c =
    let b = takes _ _ c.in-Some.ensures in
    omega (arith, c.loop-byte.invariant.writes_few, c.writes_for-writes.ensures, writes_for_bounds c.in-Some.field-0, b.2)

pub loop-byte-preserved : goal.loop-byte-preserved
loop-byte-preserved c =
    let before = at-byte (goal.at.loop-byte-preserved c).After-parameters in
    elim c.match-parameters.branch [
      | in-None w ↦
          (let s = extent_ended before (no_command _ w.in-None.ensures) in
          record {
            so_far = rw (w.words-is, w.writes-is, w.dummy-is, w.ended-is) s;
            words_few = omega arith;
            writes_few = omega arith;
          })
      | in-Some-2 w ↦
          (let b = takes _ _ w.in-Some.ensures in
          let s = extent_more before b.0 w.if-ended.false _ _ b.1 w.writes_for-writes.ensures in
          record {
            so_far = rw (w.words-is, w.writes-is, w.dummy-is, w.ended-is) s;
            words_few = omega (arith, b.2);
            writes_few = omega (arith, b.2, w.writes_for-writes.ensures, writes_for_bounds w.in-Some.field-0);
          })
    ]

pub returns : goal.returns
returns c =
    let bs = c.to_le_bytes-byte-items.result in
    let i = c.loop-byte.byte-index in
    let e = drop_of_length-le bs {i = i} (omega (arith, ap length c.to_le_bytes-byte-items.ensures)) in
    extent_end (rw e at c.loop-byte.invariant.so_far) _ (c.from.ensures ∙ dummy_word c.loop-byte.dummy)
