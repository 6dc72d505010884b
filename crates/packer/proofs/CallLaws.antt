-- What `pack` gives in each case, for the function that computes it.
use mathlib.Core.Bool.{or-true}
use mathlib.Core.List.{List}
use mathlib.Core.Path.{◌≡◌, sym, subst, refl, ◌∙◌}
use Prim.Native.Nat.{ℕ, ◌%◌, ◌≤◌, ◌<◌}
use native.Mathlib.Omega.{arith}
use lib.ListN.{length}
use borrow.Author.Tests.{eq-eqb, ne_eqb, lt-ltb, le-ltb}
use Rattle.std.specs.Prelude.{Ok, Err}
use Rattle.words.specs.Words.{over}
use Rattle.words.specs.Odd.{is_odd}
use Rattle.stream.specs.declared.Refusal.{Refusal}
use Rattle.stream.specs.declared.Refusal.TheVariants.{NotSound, ListTooShort, Hole, OtherKindPending, NoPort, OtherPort}
use Rattle.stream.specs.declared.Refusal.TheVariants.{NoInput, Incomplete, TooLong, OutputTooShort, NoRoom}
use Rattle.stream.specs.declared.Refused.{Refused}
use Rattle.stream.specs.Refusal.{number_of}
use Rattle.stream.specs.Pending.{idle}
use Rattle.stream.specs.Step.{port_step}
use Rattle.stream.specs.Read.{Read, writes, log_commands}
use Rattle.stream.specs.Output.{refusal, on_read, answer_to, measured, Stores}
use Rattle.stream.specs.Pack.{packed_words, or_none, pack_commands, pack}
use Rattle.stream.proofs.StepLaws.{idle-sound, port-keeps}
use Rattle.stream.proofs.ReadLaws.{stopped-number}
use Rattle.stream.proofs.OutputLaws.{refused-read, ReadWhole, read_whole, stores-measured}
use Rattle.stream.specs.Input.{most_words}

module _ (capacity : ℕ) (log : List ℕ) where
  pub log_odd : length log % 2 ≡ 1 → pack capacity log ≡ refusal 7 0
  unfolding pack
  log_odd h = rw (eq-eqb (length log % 2) 1 h)

  pub log_long : most_words < length log → pack capacity log ≡ refusal 7 0
  unfolding pack
  log_long h = rw (lt-ltb most_words (length log) h, or-true (is_odd (length log)))

-- a refusal is no success
number-some : (r : Refusal) → number_of r ≡ 0 → ⊥
number-some NotSound e = absurd (omega arith)
number-some ListTooShort e = absurd (omega arith)
number-some Hole e = absurd (omega arith)
number-some OtherKindPending e = absurd (omega arith)
number-some NoPort e = absurd (omega arith)
number-some OtherPort e = absurd (omega arith)
number-some NoInput e = absurd (omega arith)
number-some Incomplete e = absurd (omega arith)
number-some TooLong e = absurd (omega arith)
number-some OutputTooShort e = absurd (omega arith)
number-some NoRoom e = absurd (omega arith)

-- number 7 does not fall
pub record Allowed (log : List ℕ) : Type 0 where
  pub not-odd : length log % 2 ≡ 1 → ⊥
  pub short : length log ≤ most_words

module _ (capacity : ℕ) {log : List ℕ} (a : Allowed log) where
  by_reading : pack capacity log ≡ on_read (log_commands (writes log)) (pack_commands capacity)
  unfolding pack
  by_reading = rw (ne_eqb (length log % 2) 1 a.not-odd, le-ltb most_words (length log) a.short)

  pub refused_log : (r : Refused) → answer_to (Err r) ≡ measured packed_words (log_commands (writes log))
      → (old : List ℕ) → Stores (pack capacity log) (answer_to (Err r)) old old
  refused_log r is =
      refused-read packed_words (log_commands (writes log)) (answer_to (Err r)) is (pack_commands capacity) by_reading
      (number-some r.refusal)

  -- the log is accepted where the output is long enough, and is packed into n words
  module _ (n : ℕ) (is : answer_to (Ok n) ≡ measured packed_words (log_commands (writes log))) where
    pub accepted_log : ReadWhole packed_words (log_commands (writes log)) (answer_to (Ok n)) is
    unfolding log_commands
    accepted_log =
        read_whole packed_words (log_commands (writes log)) (answer_to (Ok n)) is
        (λ m p e. (stopped-number port_step port-keeps (writes log) 0 0 idle m p idle-sound e).least) refl

    by-commands : pack capacity log ≡ pack_commands capacity (or_none (log_commands (writes log)))
    by-commands =
        by_reading
        ∙ subst
        (λ (r : Read). on_read r (pack_commands capacity) ≡ pack_commands capacity (or_none (log_commands (writes log))))
        (sym accepted_log.read) refl

    length-is : n ≡ length (packed_words (or_none (log_commands (writes log))))
    length-is = accepted_log.length-is

    pub list-long : most_words < n → pack capacity log ≡ refusal 9 0
    unfolding pack_commands
    list-long h =
        by-commands
        ∙ rw (lt-ltb most_words (length (packed_words (or_none (log_commands (writes log)))))
        (omega (arith, length-is)))

    module _ (s : n ≤ most_words) where
      fits : length (packed_words (or_none (log_commands (writes log)))) ≤ most_words
      fits = omega (arith, length-is)

      pub too_small : capacity < n → pack capacity log ≡ refusal 10 0
      unfolding pack_commands
      too_small h =
          by-commands
          ∙ rw (
            le-ltb most_words (length (packed_words (or_none (log_commands (writes log))))) fits,
            lt-ltb capacity (length (packed_words (or_none (log_commands (writes log))))) (omega (arith, length-is)),
          )

      pub stores_words : n ≤ capacity → (old new : List ℕ)
          → new ≡ over (packed_words (or_none (log_commands (writes log)))) old
          → Stores (pack capacity log) (answer_to (Ok n)) old new
      unfolding pack_commands
      stores_words h old new =
          stores-measured
          (by-commands
          ∙ rw (
            le-ltb most_words (length (packed_words (or_none (log_commands (writes log))))) fits,
            le-ltb capacity (length (packed_words (or_none (log_commands (writes log))))) (omega (arith, length-is)),
          ))
          accepted_log.answer
