use mathlib.Core.Path.{◌≡◌}
use lib.ListN.{take}
use Rattle.words.specs.Words.{over}
use Rattle.packer.specs.Inside.{writes_of, values}
use Rattle.packer.proofs.put_values.Given as goal

abbrev pub invariant-loop-j : goal.invariant-loop-j
invariant-loop-j l = l.words ≡ over (take l.j (values (writes_of l.writes))) l.initial.words
