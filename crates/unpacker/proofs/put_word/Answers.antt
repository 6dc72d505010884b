use mathlib.Core.Path.{◌≡◌, ◌∙◌}
use Prim.Native.Nat.{ℕ, ◌+◌, ◌-◌}
use native.Mathlib.Omega.{arith}
use Rattle.unpacker.proofs.ByteLaws.{dummy_word}
use Rattle.unpacker.proofs.PutLaws.{put_word_start, enough, queue-falls, command-room, put_word_more, put_word_end}
use Rattle.unpacker.proofs.put_word.Goals as goal

pub loop-count-init : goal.loop-count-init
loop-count-init c =
    put_word_start c.args.words.now c.args.i c.args.to c.args.buffer.now
    (omega (arith, c.type_inv.words c.args.i)) c.requires

pub slice_bounds-put_command-end : goal.slice_bounds-put_command-end
slice_bounds-put_command-end c = omega (arith, enough c.loop-count.invariant _ c.in-Some.ensures)

-- how long the part is that a command's parameters are
part : (a b : ℕ) → (a + b) - a ≡ b
part a b = omega arith

pub put_command-end-requires : goal.put_command-end-requires
put_command-end-requires c =
    rw (part c.loop-count.next c.in-Some.count) (command-room c.loop-count.invariant _ c.in-Some.ensures)

pub loop-count-smaller : goal.loop-count-smaller
loop-count-smaller c = queue-falls c.loop-count.invariant _ c.in-Some.ensures

pub loop-count-preserved : goal.loop-count-preserved
loop-count-preserved c =
    let e = part c.loop-count.next c.in-Some.count in
    put_word_more c.loop-count.invariant _ c.in-Some.ensures _ _
    (rw e at c.put_command-end.ensures.end) (rw e at c.put_command-end.ensures.buffer_after)

pub returns : goal.returns
returns c =
    put_word_end c.loop-count.invariant c.in_default.ensures _ (c.from.ensures ∙ dummy_word c.loop-count.dummy)
