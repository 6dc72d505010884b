-- How many words a log is packed to: never more than the output holds, and at most 8,192, so that an output of that
-- length is never too short.
use mathlib.Core.Bool.{Bool, true, false, cond, ◌||◌}
use mathlib.Core.List.{List}
use mathlib.Core.Path.{◌≡◌, refl}
use Prim.Native.Nat.{ℕ, ◌≤◌, zero-le}
use native.Mathlib.Omega.{arith}
use lib.Dec.{ltb}
use lib.ListN.{length}
use borrow.Author.Tests.{le-ltb, ltb-false}
use Rattle.words.specs.Odd.{is_odd}
use Rattle.stream.specs.Read.{Read, stopped, commands, writes, log_commands}
use Rattle.stream.specs.Output.{refusal, fitted, on_read}
use Rattle.stream.specs.Pack.{packed_words, pack_commands, pack}
use Rattle.stream.proofs.OutputLaws.{fitted-fits}
use Rattle.stream.specs.Input.{most_words}

-- what is stored fits the output
pub pack-fits : (capacity : ℕ) (log : List ℕ) → length (pack capacity log).words ≤ capacity
unfolding pack pack_commands
pack-fits capacity log = by (is_odd (length log) || ltb most_words (length log)) (log_commands (writes log))
  where
    by : (t : Bool) (r : Read) → length (cond t (refusal 7 0) (on_read r (pack_commands capacity))).words ≤ capacity
    by true r = zero-le
    by false (stopped n p) = zero-le
    by false (commands cs) = long (ltb most_words (length (packed_words cs)))
      where
        long : (t : Bool) → length (cond t (refusal 9 0) (fitted capacity (packed_words cs))).words ≤ capacity
        long true = zero-le
        long false = fitted-fits capacity (packed_words cs)

-- an output of more than 8,192 words makes no difference
pub pack-capped : (capacity : ℕ) (log : List ℕ) → most_words ≤ capacity → pack capacity log ≡ pack most_words log
unfolding pack pack_commands
pack-capped capacity log h = by (is_odd (length log) || ltb most_words (length log)) (log_commands (writes log))
  where
    by : (t : Bool) (r : Read)
        → cond t (refusal 7 0) (on_read r (pack_commands capacity))
        ≡ cond t (refusal 7 0) (on_read r (pack_commands most_words))
    by true r = refl
    by false (stopped n p) = refl
    by false (commands cs) = long (ltb most_words (length (packed_words cs))) refl
      where
        long : (t : Bool) → ltb most_words (length (packed_words cs)) ≡ t
            → cond t (refusal 9 0) (fitted capacity (packed_words cs))
            ≡ cond t (refusal 9 0) (fitted most_words (packed_words cs))
        long true e = refl
        long false e =
            let l : length (packed_words cs) ≤ most_words = ltb-false most_words (length (packed_words cs)) e in
            rw (le-ltb capacity (length (packed_words cs)) (omega arith), e)
