-- Demand 3 of a function that runs both sides of a log.
use mathlib.Core.List.{List}
use mathlib.Core.Path.{◌≡◌, refl, sym, ap, ◌∙◌}
use Prim.Native.Nat.{ℕ}
use lib.IntN.{ℤ}
use lib.ListN.{length, take}
use Rattle.stream.specs.declared.OutputAnswer.{OutputAnswer}
use Rattle.stream.specs.Read.{writes}
use Rattle.stream.specs.Output.{Stores}
use Rattle.stream.specs.Pack.{pack}
use Rattle.stream.specs.Step.{port_step}
use Rattle.stream.specs.Feed.{Fed, fed, place_of, after}
use Rattle.stream.proofs.FeedLaws.{list_all}
use Rattle.stream.proofs.OutputLaws.{stored-words}
use Rattle.state.specs.declared.Core.{Core}
use Rattle.state.specs.declared.Engine.{Engine}
use Rattle.state.specs.declared.ListAnswer.{ListAnswer}
use Rattle.polygons.specs.Buffers.{Buffered}
use Rattle.execute.specs.Call.{engine_rules, machine_of, word_reply, port_reply, fed_of, words_reply, writes_reply}
use Rattle.equivalence.specs.declared.BothEnds.{BothEnds}
use Rattle.equivalence.specs.Demand3.{Start}
use Rattle.equivalence.specs.Calls.{lent}
use Rattle.equivalence.specs.Both.{NotRun, Ran, BothAgree}
use Rattle.equivalence.proofs.Agree.{start_usable, engine-demand3}

-- the two sides of an accepted log, run
module _ {log : List ℕ} {r : BothEnds} {old output : List ℕ} {e : Engine} {vertices vertices2 vs ws : List ℤ}
    {polygons polygons2 ps qs : List ℕ} (stores : Stores (pack (length old) log) r.packed old output)
    (accepted : r.packed.number ≡ 0)
    (writes-ran : fed_of r.writes vs ps ≡ writes_reply (machine_of e vertices polygons) (writes log))
    (writes-place : r.writes.place ≡ place_of r.writes.number r.writes.taken)
    (words-ran : fed_of r.words ws qs
    ≡ words_reply (machine_of e vertices2 polygons2) (take r.packed.length output))
    (words-place : r.words.place ≡ place_of r.words.number r.words.taken) where
  -- from equal buffers
  agree : Start e vertices polygons → vertices ≡ vertices2 → polygons ≡ polygons2
      → BothAgree log r (lent r.writes.engine vs ps) (lent r.words.engine ws qs)
  agree s p q =
      let m = machine_of e vertices polygons in
      let o = pack (length old) log in
      let n : r.packed.length ≡ length o.words = ap (λ (x : OutputAnswer). x.length) stores.answer in
      let a : o.number ≡ 0 = sym (ap (λ (x : OutputAnswer). x.number) stores.answer) ∙ accepted in
      let d = engine-demand3 (length old) log e vertices polygons a s in
      let by-writes : fed_of r.writes vs ps ≡ fed (length (writes log)) 0 (after port_reply m (writes log)) =
      writes-ran
      ∙ list_all engine_rules port_step m (writes log) (start_usable e vertices polygons s) d.writes-taken in
      let by-words : fed_of r.words ws qs ≡ fed (length o.words) 0 (after word_reply m o.words) =
      words-ran
      ∙ ap (words_reply (machine_of e vertices2 polygons2)) (stored-words stores)
      ∙ rw (← p, ← q) d.words_in_one_call in
      record {
        writes-taken = ap (λ (f : Fed (Buffered Core)). f.taken) by-writes;
        writes-number = ap (λ (f : Fed (Buffered Core)). f.number) by-writes;
        words-taken = ap (λ (f : Fed (Buffered Core)). f.taken) by-words ∙ sym n;
        words-number = ap (λ (f : Fed (Buffered Core)). f.number) by-words;
        sides_agree = rw (
          n,
          ap (λ (f : Fed (Buffered Core)). f.left) by-writes,
          ap (λ (f : Fed (Buffered Core)). f.left) by-words,
        ) d.sides_agree;
      }

  -- what `run_both` promises
  pub both-ran : Ran log r old output (lent e vertices polygons) (lent r.writes.engine vs ps)
      (lent e vertices2 polygons2) (lent r.words.engine ws qs)
      × (r.packed.number ≡ 0 → Start e vertices polygons → vertices ≡ vertices2 → polygons ≡ polygons2
      → BothAgree log r (lent r.writes.engine vs ps) (lent r.words.engine ws qs))
  both-ran = (
    record {
      stores = stores;
      writes-ran = λ _. writes-ran;
      words-ran = λ _. words-ran;
      refused = λ d. absurd (d accepted);
      writes-place = writes-place;
      words-place = words-place;
    },
    λ z s p q. agree s p q,
  )

-- a side of a refused log
abbrev none-fed : Engine → ListAnswer
none-fed e = record { number = 0; place = 0; taken = 0; engine = e }

pub not-run : {f : ListAnswer} {e : Engine} (vertices : List ℤ) (polygons : List ℕ) → f ≡ none-fed e
    → NotRun f (lent e vertices polygons) (lent f.engine vertices polygons)
not-run vertices polygons h = rw h (record { taken = refl; number = refl; same = refl })

pub not_placed : {f : ListAnswer} {e : Engine} → f ≡ none-fed e → f.place ≡ place_of f.number f.taken
unfolding place_of
not_placed h = rw h
