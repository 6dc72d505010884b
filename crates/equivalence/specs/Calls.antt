-- Demand 3 of calls that were really made: whatever functions gave the answers, of each call only what the contracts of
-- `pack`, `port_write`, `word` and `feed_words` promise is used.
use Rattle.std.specs.Prelude.{List, [], ◌∷◌, ◌++◌, ◌≡◌, ℕ, ℤ, length, take}
use Rattle.stream.specs.declared.OutputAnswer.{OutputAnswer}
use Rattle.stream.specs.Read.{writes}
use Rattle.stream.specs.Output.{Stores}
use Rattle.stream.specs.Pack.{pack}
use Rattle.stream.specs.Pending.{Pending}
use Rattle.stream.specs.Step.{Step, word_step, port_step}
use Rattle.stream.specs.Call.{Machine, call_by}
use Rattle.stream.specs.Feed.{list_by}
use Rattle.state.specs.declared.Core.{Core}
use Rattle.state.specs.declared.Engine.{Engine}
use Rattle.state.specs.declared.Answer.{Answer}
use Rattle.state.specs.declared.ListAnswer.{ListAnswer}
use Rattle.polygons.specs.Buffers.{Buffered}
use Rattle.execute.specs.Call.{engine_rules, machine_of, reply_of, fed_of}
use Rattle.equivalence.specs.EqualEnds.{SidesAgree}
use Rattle.equivalence.specs.Demand3.{Start}

-- an engine's record and the caller's two buffers, as the code has them
pub record Lent : Type 0 where
  pub engine : Engine
  pub vertices : List ℤ
  pub polygons : List ℕ

abbrev pub lent : Engine → List ℤ → List ℕ → Lent
lent e vertices polygons = record { engine = e; vertices = vertices; polygons = polygons }

-- what they stand for
abbrev pub machine_at : Lent → Machine (Buffered Core)
machine_at s = machine_of s.engine s.vertices s.polygons

-- Calls one after another on the items l, each with the record and the buffers that the one before left: the numbers
-- that they answer, and what the last leaves. A call takes one item, or, with T-01, any number of them: "Demands 2 and 3
-- read the same for either way of feeding". r, vertices and polygons are a call's answer and what it leaves in the
-- buffers; the equation is its contract.
pub data Calls {A : Type 0} (step : Pending → A → Step) : Lent → List A → List ℕ → Lent → Type 0 where
  none : {s : Lent} → Calls step s [] [] s
  one : {s t : Lent} {a : A} {l : List A} {numbers : List ℕ} (r : Answer) (vertices : List ℤ) (polygons : List ℕ)
      → reply_of r vertices polygons ≡ call_by engine_rules step (machine_at s) a
      → Calls step (lent r.engine vertices polygons) l numbers t → Calls step s (a ∷ l) (r.number ∷ numbers) t
  many : {s t : Lent} {items : List A} {numbers : List ℕ} (k l : List A) (r : ListAnswer) (vertices : List ℤ)
      (polygons : List ℕ) → items ≡ k ++ l → fed_of r vertices polygons ≡ list_by engine_rules step (machine_at s) k
      → Calls step (lent r.engine vertices polygons) l numbers t → Calls step s items (r.number ∷ numbers) t

-- "every call answers number 0"
abbrev pub AllZero : List ℕ → Type 0
AllZero [] = Unit {0}
AllZero (n ∷ numbers) = (n ≡ 0) × AllZero numbers

-- Both sides of a log, which was packed to these words: s is where the port writes start and t where the packed words
-- do (reading 28).
pub record BothSides (log words : List ℕ) (s t : Lent) : Type 0 where
  pub start : Start s.engine s.vertices s.polygons
  pub equal_starts : machine_at s ≡ machine_at t
  pub by-writes : Lent
  pub write-numbers : List ℕ
  pub write_calls : Calls port_step s (writes log) write-numbers by-writes
  pub by-words : Lent
  pub word-numbers : List ℕ
  pub word_calls : Calls word_step t words word-numbers by-words

-- and what holds of them; n is the length that the packer answered
pub record CallsAgree (n : ℕ) {log words : List ℕ} {s t : Lent} (b : BothSides log words s t) : Type 0 where
  pub writes-taken : AllZero b.write-numbers
  pub words-taken : AllZero b.word-numbers
  pub sides_agree : SidesAgree log n (machine_at b.by-writes) (machine_at b.by-words)

-- Demand 3: a packer answered `packed` and accepted the log, its output `old` before and `output` after; "the packed
-- words are then its output up to the length"
abbrev pub CallsDemand3 : Type 0
CallsDemand3 =
    (log : List ℕ) (packed : OutputAnswer) (old output : List ℕ) (s t : Lent)
    → Stores (pack (length old) log) packed old output → packed.number ≡ 0
    → (b : BothSides log (take packed.length output) s t) → CallsAgree packed.length b
