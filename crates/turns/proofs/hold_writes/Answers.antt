use mathlib.Core.Path.{◌∙◌}
use Prim.Native.Nat.{◌+◌, ◌*◌, ◌/◌, ◌<◌}
use native.Mathlib.Omega.{arith}
use lib.ListN.{length, get_or}
use Rattle.stream.specs.Command.{write}
use Rattle.stream.proofs.UnpackLaws.{length-writes}
use Rattle.turns.proofs.HeldLaws.{held_more}
use Rattle.turns.proofs.WriteTurn.{write-is}
use Rattle.turns.proofs.hold_writes.Goals as goal

pub loop-j-preserved : goal.loop-j-preserved
loop-j-preserved c =
    let log = c.args.log.now in
    let at = c.args.i + c.loop-j.j in
    let inside : at < length log / 2 = omega arith in
    held_more c.loop-j.invariant (omega (arith, length-writes log)) (write 0 0) (get_or log (2 * at + 1) 0)
    (write-is log at inside ∙ rw c.if-log-i.false)
