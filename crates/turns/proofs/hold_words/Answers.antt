use Prim.Native.Nat.{◌+◌}
use native.Mathlib.Omega.{arith}
use mathlib.Core.Path.{refl}
use lib.ListN.{get_or}
use Rattle.turns.proofs.HeldLaws.{held_one, held_more}
use Rattle.turns.proofs.hold_words.Goals as goal

pub returns-then-many-eq1 : goal.returns-then-many-eq1
returns-then-many-eq1 c =
    rw c.if-many-eq1.true (held_one (omega arith) 0 (get_or c.args.words.now c.args.i 0) refl)

pub loop-j-preserved : goal.loop-j-preserved
loop-j-preserved c =
    held_more c.loop-j.invariant (omega arith) 0 (get_or c.args.words.now (c.args.i + c.loop-j.j) 0) refl
