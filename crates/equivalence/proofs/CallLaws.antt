-- Calls by their contracts follow the definitions, so demand 3 holds of calls that were really made.
use mathlib.Core.Bool.{true}
use mathlib.Core.List.{List}
use mathlib.Core.Path.{◌≡◌, refl, sym, ap, subst, ◌∙◌}
use Prim.Native.Nat.{ℕ}
use lib.ListN.{length}
use Rattle.stream.specs.declared.OutputAnswer.{OutputAnswer}
use Rattle.stream.specs.Pending.{Pending, sound_pending}
use Rattle.stream.specs.Step.{Step, word_step, port_step}
use Rattle.stream.specs.Pack.{pack}
use Rattle.stream.specs.Call.{Machine, Reply, call_by}
use Rattle.stream.specs.Feed.{Fed, fed, after, AllTaken}
use Rattle.stream.specs.Demand3.{Usable}
use Rattle.stream.proofs.OutputLaws.{stored-words}
use Rattle.stream.proofs.StepLaws.{KeepsSound, word_keeps, port-keeps}
use Rattle.stream.proofs.CallLaws.{Keeping, call-keeps}
use Rattle.stream.proofs.FeedLaws.{after-append, taken-append, after-keeps, list_all}
use Rattle.state.specs.declared.Core.{Core}
use Rattle.polygons.specs.Buffers.{Buffered}
use Rattle.execute.specs.Call.{engine_rules, machine_of, fed_of, word_reply}
use Rattle.equivalence.specs.Calls.{Lent, machine_at, Calls, none, one, many, AllZero, BothSides, CallsAgree}
use Rattle.equivalence.specs.Calls.{CallsDemand3}
use Rattle.equivalence.proofs.Agree.{keeps, start_usable, engine-demand3}

-- what calls leave that are all taken, and what they answer
record Followed {A : Type 0} (step : Pending → A → Step) (s : Lent) (l : List A) (numbers : List ℕ) (t : Lent)
    : Type 0 where
  end : machine_at t ≡ after (call_by engine_rules step) (machine_at s) l
  all-zero : AllZero numbers

module _ {A : Type 0} (step : Pending → A → Step)
    (step_Keeps : (p : Pending) (a : A) → sound_pending p ≡ true → KeepsSound (step p a)) where
  abbrev call : Machine (Buffered Core) → A → Reply (Buffered Core)
  call = call_by engine_rules step

  abbrev Fine : Machine (Buffered Core) → Type 0
  Fine = Keeping (Usable engine_rules)

  call_fine : (m : Machine (Buffered Core)) (a : A) → Fine m → Fine (call m a).left
  call_fine = call-keeps engine_rules (Usable engine_rules) keeps step step_Keeps

  -- where every call of its own would answer number 0, so does each that was made
  followed : {s t : Lent} {l : List A} {numbers : List ℕ} → Calls step s l numbers t → Fine (machine_at s)
      → AllTaken call (machine_at s) l → Followed step s l numbers t
  followed none f h = record { end = refl; all-zero = tt }
  followed {s} (one {a = a} {l = l} r vertices polygons e rest) f h =
      let m = machine_at s in
      let next : machine_of r.engine vertices polygons ≡ (call m a).left =
      ap (λ (x : Reply (Buffered Core)). x.left) e in
      let more = followed rest (subst Fine (sym next) (call_fine m a f))
      (subst (λ (x : Machine (Buffered Core)). AllTaken call x l) (sym next) h.1) in
      record {
        end = more.end ∙ ap (λ (x : Machine (Buffered Core)). after call x l) next;
        all-zero = (ap (λ (x : Reply (Buffered Core)). x.number) e ∙ h.0, more.all-zero);
      }
  followed {s} (many k l r vertices polygons split e rest) f h =
      let m = machine_at s in
      let parts = taken-append call m k l (rw split at h) in
      let is : fed_of r vertices polygons ≡ fed (length k) 0 (after call m k) =
      e ∙ list_all engine_rules step m k f parts.0 in
      let next : machine_of r.engine vertices polygons ≡ after call m k =
      ap (λ (x : Fed (Buffered Core)). x.left) is in
      let more = followed rest (subst Fine (sym next) (after-keeps call Fine call_fine m k f))
      (subst (λ (x : Machine (Buffered Core)). AllTaken call x l) (sym next) parts.1) in
      record {
        end = more.end ∙ ap (λ (x : Machine (Buffered Core)). after call x l) next
            ∙ sym (after-append call m k l) ∙ ap (after call m) (sym split);
        all-zero = (ap (λ (x : Fed (Buffered Core)). x.number) is, more.all-zero);
      }

-- demand 3 of both sides of the words that the definition gives
pub sides_demand3 : (capacity : ℕ) {log words : List ℕ} {s t : Lent} → (pack capacity log).number ≡ 0
    → words ≡ (pack capacity log).words → (n : ℕ) → n ≡ length (pack capacity log).words
    → (b : BothSides log words s t) → CallsAgree n b
sides_demand3 capacity {log} {words} {s} {t} accepted are n long b =
    let d = engine-demand3 capacity log s.engine s.vertices s.polygons accepted b.start in
    let usable = start_usable s.engine s.vertices s.polygons b.start in
    let by-writes = followed port_step port-keeps b.write_calls usable d.writes-taken in
    let by-words = followed word_step word_keeps b.word_calls
    (subst (Keeping (Usable engine_rules)) b.equal_starts usable)
    (rw are (subst (λ (m : Machine (Buffered Core)). AllTaken word_reply m (pack capacity log).words)
    b.equal_starts d.words-taken)) in
    let end : after word_reply (machine_at s) (pack capacity log).words ≡ machine_at b.by-words =
    ap (λ (m : Machine (Buffered Core)). after word_reply m (pack capacity log).words) b.equal_starts
    ∙ ap (after word_reply (machine_at t)) (sym are) ∙ sym by-words.end in
    record {
      writes-taken = by-writes.all-zero;
      words-taken = by-words.all-zero;
      sides_agree = rw (long, by-writes.end, ← end) d.sides_agree;
    }

-- and of those that a packer answers
pub calls_demand3 : CallsDemand3
calls_demand3 log packed old output s t stores accepted b =
    sides_demand3 (length old) (sym (ap (λ (x : OutputAnswer). x.number) stores.answer) ∙ accepted)
    (stored-words stores) packed.length (ap (λ (x : OutputAnswer). x.length) stores.answer) b
