-- What `unpack_from` gives in each case, for the function that computes it.
use mathlib.Core.List.{List}
use mathlib.Core.Path.{◌≡◌, refl, ◌∙◌}
use Prim.Native.Nat.{ℕ, ◌≤◌, ◌<◌}
use native.Mathlib.Omega.{arith}
use lib.ListN.{length, drop}
use borrow.Author.Tests.{lt-ltb, le-ltb}
use Rattle.std.specs.Prelude.{Ok, Err}
use Rattle.words.specs.Words.{over}
use Rattle.stream.specs.declared.Refusal.{Refusal}
use Rattle.stream.specs.declared.Refusal.TheVariants.{NotSound, ListTooShort, Hole, OtherKindPending, NoPort, OtherPort}
use Rattle.stream.specs.declared.Refusal.TheVariants.{NoInput, Incomplete, TooLong, OutputTooShort, NoRoom}
use Rattle.stream.specs.declared.Refused.{Refused}
use Rattle.stream.specs.Refusal.{number_of}
use Rattle.stream.specs.Pending.{idle}
use Rattle.stream.specs.Step.{word_step}
use Rattle.stream.specs.Read.{Read, commands, list_commands}
use Rattle.stream.specs.Output.{refusal, fitted, on_read, answer_to, measured, Stores}
use Rattle.stream.specs.Pack.{or_none}
use Rattle.stream.specs.Unpack.{commands_log, unpack_from}
use Rattle.stream.proofs.StepLaws.{idle-sound, word_keeps}
use Rattle.stream.proofs.ReadLaws.{stopped-number}
use Rattle.stream.proofs.OutputLaws.{refused-read, ReadWhole, read_whole, stores-measured}
use Rattle.stream.specs.Input.{most_words}
use Rattle.unpacker.specs.Inside.{log_from}

-- a refusal's number is not 0
number-some : (r : Refusal) → number_of r ≡ 0 → ⊥
number-some NotSound e = omega arith
number-some ListTooShort e = omega arith
number-some Hole e = omega arith
number-some OtherKindPending e = omega arith
number-some NoPort e = omega arith
number-some OtherPort e = omega arith
number-some NoInput e = omega arith
number-some Incomplete e = omega arith
number-some TooLong e = omega arith
number-some OutputTooShort e = omega arith
number-some NoRoom e = omega arith

module _ (place capacity : ℕ) (l : List ℕ) where
  pub too_long : most_words < length l → unpack_from place capacity l ≡ refusal 7 0
  unfolding unpack_from
  too_long h = rw (lt-ltb most_words (length l) h)

  by_reading : length l ≤ most_words → (r : Read) → list_commands place l ≡ r
      → unpack_from place capacity l ≡ on_read r (λ cs. fitted capacity (commands_log cs))
  unfolding unpack_from
  by_reading h r e = rw (le-ltb most_words (length l) h, e)

  pub refused_reading : (r : Refused) → length l ≤ most_words
      → answer_to (Err r) ≡ measured commands_log (list_commands place l) → (old : List ℕ)
      → Stores (unpack_from place capacity l) (answer_to (Err r)) old old
  refused_reading r h is =
      refused-read commands_log (list_commands place l) (answer_to (Err r)) is (λ cs. fitted capacity (commands_log cs))
      (by_reading h (list_commands place l) refl) (number-some r.refusal)

-- ---- a list that is accepted where the output is long enough: n numbers

pub record Accepted (place : ℕ) (l : List ℕ) (n : ℕ) : Type 0 where
  pub short : length l ≤ most_words
  pub is : answer_to (Ok n) ≡ measured commands_log (list_commands place l)
  pub whole : ReadWhole commands_log (list_commands place l) (answer_to (Ok n)) is

pub accepted : (place : ℕ) (l : List ℕ) (n : ℕ) → length l ≤ most_words
    → answer_to (Ok n) ≡ measured commands_log (list_commands place l) → Accepted place l n
unfolding list_commands
accepted place l n h is = record {
  short = h;
  is = is;
  whole = read_whole commands_log (list_commands place l) (answer_to (Ok n)) is
      (λ n p e. (stopped-number word_step word_keeps (drop place l) place 0 idle n p idle-sound e).least) refl;
}

module _ {place : ℕ} {l : List ℕ} {n : ℕ} (capacity : ℕ) (a : Accepted place l n) where
  by-commands : unpack_from place capacity l ≡ fitted capacity (log_from place l)
  by-commands =
      by_reading place capacity l a.short (commands (or_none (list_commands place l))) a.whole.read

  pub too_small : capacity < n → unpack_from place capacity l ≡ refusal 10 0
  too_small h =
      by-commands ∙ rw (lt-ltb capacity (length (log_from place l)) (omega (arith, a.whole.length-is)))

  pub stores_log : n ≤ capacity → (old new : List ℕ) → new ≡ over (log_from place l) old
      → Stores (unpack_from place capacity l) (answer_to (Ok n)) old new
  stores_log h old new =
      stores-measured
      (by-commands ∙ rw (le-ltb capacity (length (log_from place l)) (omega (arith, a.whole.length-is))))
      a.whole.answer
