use mathlib.Core.Path.{refl, ap, ◌∙◌}
use Prim.Native.Nat.{ℕ, ◌+◌, ◌*◌, ◌-◌, ◌<◌}
use native.Mathlib.Omega.{arith}
use borrow.Rule.Slice.PartMut.{put_mid}
use Rattle.std.proofs.lemmas.List.{length-take, get_or-take}
use Rattle.words.specs.Words.{bytes, bytes_of, over}
use Rattle.words.proofs.Words.{bytes_are, over_word}
use Rattle.words.proofs.write_words.Goals as goal

pub loop-i-init : goal.loop-i-init
unfolding bytes_of over
loop-i-init c = refl

pub loop-i-preserved : goal.loop-i-preserved
loop-i-preserved c =
    let input = c.args.input.now in
    let at = c.loop-i in
    let inside : at.i < c.min-count.result = omega (arith, length-take {A = ℕ}) in
    let written =
    c.copy_from_slice.ensures.after ∙ c.to_le_bytes.ensures ∙ bytes_are _ ∙ ap (bytes 4) (get_or-take c.min-count.result input at.i 0 inside) in
    (λ t. put_mid (4 * at.i) (4 * at.i + 4 - 4 * at.i) (at.invariant t) (written t))
    ∙ over_word input c.args.buffer.now at.i (4 * at.i + 4 - 4 * at.i) (omega arith) (omega arith) (omega arith)
