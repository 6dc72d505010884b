use Prim.Native.Nat.{◌-◌}
use lib.ListN.{length}
use Rattle.unpacker.proofs.PutLaws.{PuttingList}
use Rattle.unpacker.proofs.put_list.Given as goal

abbrev pub invariant-loop-i : goal.invariant-loop-i
invariant-loop-i l = PuttingList l.words l.initial.buffer l.place l.i l.to l.buffer

abbrev pub decreases-loop-i : goal.decreases-loop-i
decreases-loop-i l = length l.words - l.i
