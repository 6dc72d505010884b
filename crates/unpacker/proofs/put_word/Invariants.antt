use Rattle.unpacker.proofs.PutLaws.{PuttingWord}
use Rattle.unpacker.proofs.put_word.Given as goal

abbrev pub invariant-loop-count : goal.invariant-loop-count
invariant-loop-count l = PuttingWord l.words l.i l.to l.initial.buffer l.queue l.next l.end l.dummy l.buffer

abbrev pub decreases-loop-count : goal.decreases-loop-count
decreases-loop-count l = l.queue
