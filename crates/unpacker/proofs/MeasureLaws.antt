-- The pass that measures a list: the invariant of its loop.
use mathlib.Core.Bool.{true, false}
use mathlib.Core.List.{List, [], ◌++◌, append-nil}
use mathlib.Core.Path.{◌≡◌, refl, sym, ap, ◌∙◌}
use Prim.Native.Nat.{ℕ, ◌+◌, ◌*◌, ◌≤◌, ◌<◌, min}
use native.Mathlib.Omega.{arith}
use lib.ListN.{length, get_or, drop, length-drop}
use Rattle.commands.specs.Commands.{command_bytes, hole}
use Rattle.stream.specs.Pending.{commands_of}
use Rattle.stream.specs.Command.{Command}
use Rattle.stream.specs.Read.{stopped, prepend, list_commands}
use Rattle.stream.specs.Output.{refusal, answer_of, measured}
use Rattle.stream.specs.Unpack.{commands_log}
use Rattle.stream.proofs.ReadLaws.{prepend-none, prepend-append}
use Rattle.stream.proofs.UnpackLaws.{length-commands_log}
use Rattle.stream.specs.Input.{most_words, longest_log}
use Rattle.unpacker.specs.declared.Extent.{Extent}
use Rattle.unpacker.specs.Inside.{words_behind, word_commands, behind_word}
use Rattle.unpacker.proofs.WordLaws.{list_ended, at-hole, at-short, at-complete}
use Rattle.unpacker.proofs.ExtentLaws.{length-commands, extent_small, writes-by-words, Extends}

-- the words from `place` up to i were measured: they are commands of `total` numbers
pub record Measuring (l : List ℕ) (place i total : ℕ) : Type 0 where
  pub short : length l ≤ most_words
  pub done : List Command
  pub read : list_commands place l ≡ prepend done (list_commands i l)
  pub total_is : total ≡ length (commands_log done)
  pub small : total ≤ 4 * min i (length l)

pub measure_start : (l : List ℕ) (place : ℕ) → length l ≤ most_words → Measuring l place place 0
unfolding commands_log
measure_start l place h = record {
  short = h;
  done = [];
  read = sym (prepend-none (list_commands place l));
  total_is = refl;
  small = omega arith;
}

module _ {l : List ℕ} {place i total : ℕ} (m : Measuring l place i total) where
  stopped-at : (n p : ℕ) → list_commands i l ≡ stopped n p
      → answer_of (refusal n p) ≡ measured commands_log (list_commands place l)
  stopped-at n p e = rw (m.read, e)

  pub total_small : total ≤ longest_log
  total_small = omega (arith, m.small, m.short)

  pub measure_end : length l ≤ i
      → record { number = 0; place = 0; length = total } ≡ measured commands_log (list_commands place l)
  measure_end h = rw (m.read, list_ended l i h, append-nil m.done, m.total_is)

  module _ (h : i < length l) where
    pub measure_hole : hole (command_bytes (get_or l i 0)) ≡ true
        → answer_of (refusal 3 i) ≡ measured commands_log (list_commands place l)
    measure_hole e = stopped-at 3 i (at-hole l i h e)

    -- the word has no hole, and its commands take the words and port writes of r
    module _ (r : Extent) (x : Extends (get_or l i 0) r) where
      -- where the next command word stands
      next_place : i + 1 + r.words ≡ behind_word l i
      unfolding behind_word
      next_place = omega (arith, x.words)

      pub measure_short : length l < i + 1 + r.words
          → answer_of (refusal 8 i) ≡ measured commands_log (list_commands place l)
      measure_short k = stopped-at 8 i (at-short l i h x.no_hole (omega (arith, next_place)))

      pub word_small : (r.words ≤ 129) × (r.writes ≤ 132)
      word_small = let b = extent_small (get_or l i 0) in (omega (arith, x.words, b.0), omega (arith, x.writes, b.1))

      length-word : i + 1 + r.words ≤ length l → length (commands_log (word_commands l i)) ≡ 2 * r.writes
      unfolding word_commands
      length-word k =
          let b : words_behind false (commands_of (get_or l i 0)) ≤ length (drop (i + 1) l) =
          omega (arith, x.words, length-drop (i + 1) l) in
          omega (arith, x.writes, length-commands false (commands_of (get_or l i 0)) (drop (i + 1) l) b)

      pub measure_more : i + 1 + r.words ≤ length l → Measuring l place (i + 1 + r.words) (total + 2 * r.writes)
      measure_more k =
          let c : List Command = word_commands l i in
          let y : list_commands i l ≡ prepend c (list_commands (i + 1 + r.words) l) =
          rw next_place (at-complete l i h x.no_hole (omega (arith, next_place))) in
          record {
            short = m.short;
            done = m.done ++ c;
            read = m.read ∙ ap (prepend m.done) y
                ∙ prepend-append m.done (word_commands l i) (list_commands (i + 1 + r.words) l);
            total_is = omega (arith, m.total_is, length-commands_log m.done (word_commands l i), length-word k);
            small = omega (arith, m.small, x.words, x.writes, writes-by-words (get_or l i 0));
          }
