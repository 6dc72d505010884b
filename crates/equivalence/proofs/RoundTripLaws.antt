-- Demand 2 of calls that were really made, from the definitions' (stream/proofs/Demands).
use mathlib.Core.Bool.{Bool, true, false, cond, ◌||◌}
use mathlib.Core.List.{List}
use mathlib.Core.Path.{◌≡◌, refl, sym, ap, subst, ◌∙◌}
use Prim.Native.Nat.{ℕ, ◌%◌}
use native.Mathlib.Omega.{arith}
use lib.Dec.{ltb}
use lib.ListN.{length}
use borrow.Author.Tests.{eqb-false}
use Rattle.words.specs.Odd.{is_odd}
use Rattle.stream.specs.declared.OutputAnswer.{OutputAnswer}
use Rattle.stream.specs.Read.{writes, log_commands}
use Rattle.stream.specs.Output.{Output, refusal, acceptance, on_read, Stores}
use Rattle.stream.specs.Pack.{pack_commands, pack}
use Rattle.stream.specs.Unpack.{log_of, unpack, zeroed}
use Rattle.stream.proofs.OutputLaws.{stored-words}
use Rattle.stream.proofs.UnpackLaws.{length_log, length-writes}
use Rattle.stream.proofs.LogLaws.{length-zeroed}
use Rattle.stream.proofs.WriteLaws.{log_of_writes}
use Rattle.stream.proofs.Demands.{demand2}
use Rattle.stream.specs.Input.{most_words}
use Rattle.equivalence.specs.RoundTrip.{RoundTrip, LogBack}

-- an accepted log is of whole pairs
accepted-even : (capacity : ℕ) (log : List ℕ) → (pack capacity log).number ≡ 0 → length log % 2 ≡ 0
unfolding pack
accepted-even capacity log = by (is_odd (length log)) refl
  where
    by : (t : Bool) → is_odd (length log) ≡ t
        → (cond (t || ltb most_words (length log)) (refusal 7 0)
        (on_read (log_commands (writes log)) (pack_commands capacity))).number ≡ 0
        → length log % 2 ≡ 0
    by true e z = absurd (omega arith)
    by false e z = let d : length log % 2 ≡ 1 → ⊥ = eqb-false (length log % 2) 1 e in omega arith

module _ {log : List ℕ} {packed unpacked : OutputAnswer} {old output blank back : List ℕ}
    (r : RoundTrip log packed unpacked old output blank back) where
  defined : (pack (length old) log).number ≡ 0
  defined = sym (ap (λ (x : OutputAnswer). x.number) r.packs.answer) ∙ r.accepted

  even : length log % 2 ≡ 0
  even = accepted-even (length old) log defined

  stores : Stores (acceptance (log_of (zeroed (writes log)))) unpacked blank back
  stores =
      subst (λ (o : Output). Stores o unpacked blank back)
      (ap (unpack (length blank)) (stored-words r.packs) ∙ demand2 (length old) (length blank) log defined r.room)
      r.unpacks

  pub calls_demand2 : LogBack log unpacked back
  calls_demand2 = record {
    number = ap (λ (x : OutputAnswer). x.number) stores.answer;
    log_length = omega (
      arith,
      ap (λ (x : OutputAnswer). x.length) stores.answer,
      length_log (zeroed (writes log)),
      length-zeroed (writes log),
      length-writes log,
      even,
    );
    log_back = stored-words stores;
    same_log = λ z. stored-words stores ∙ ap log_of z ∙ log_of_writes log even;
  }
