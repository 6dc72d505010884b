use Rattle.std.proofs.Common.{◌≡◌, take}
use Rattle.listing.specs.Text.{word_lines}
use Rattle.listing.specs.Buffer.{with_bytes}
use Rattle.listing.proofs.Text.put_word_lines.Given as goal

abbrev pub invariant-loop-word : goal.invariant-loop-word
invariant-loop-word l = l.self ≡ with_bytes l.initial.self (word_lines (take l.word-index l.words))
