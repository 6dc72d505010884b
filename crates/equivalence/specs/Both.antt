-- What a function promises that packs a log and runs both sides of it.
use Rattle.std.specs.Prelude.{List, ◌≡◌, ℕ, length, take}
use Rattle.stream.specs.Read.{writes}
use Rattle.stream.specs.Output.{Stores}
use Rattle.stream.specs.Pack.{pack}
use Rattle.stream.specs.Feed.{place_of}
use Rattle.state.specs.declared.ListAnswer.{ListAnswer}
use Rattle.execute.specs.Call.{fed_of, words_reply, writes_reply}
use Rattle.equivalence.specs.declared.BothEnds.{BothEnds}
use Rattle.equivalence.specs.EqualEnds.{SidesAgree}
use Rattle.equivalence.specs.Calls.{Lent, machine_at}

-- nothing was fed: the engine's record comes back as it was given, and the buffers hold what they held
pub record NotRun (f : ListAnswer) (before after : Lent) : Type 0 where
  pub taken : f.taken ≡ 0
  pub number : f.number ≡ 0
  pub same : after ≡ before

-- The two sides of a log, each in one call: a is where the port writes start and b what they leave, c where the packed
-- words start and d what they leave; the output held `old` before, and `output` after. A refused log runs neither side.
pub record Ran (log : List ℕ) (r : BothEnds) (old output : List ℕ) (a b c d : Lent) : Type 0 where
  pub stores : Stores (pack (length old) log) r.packed old output
  pub writes-ran : r.packed.number ≡ 0
      → fed_of r.writes b.vertices b.polygons ≡ writes_reply (machine_at a) (writes log)
  pub words-ran : r.packed.number ≡ 0
      → fed_of r.words d.vertices d.polygons
      ≡ words_reply (machine_at c) (take r.packed.length output)
  pub refused : (r.packed.number ≡ 0 → ⊥) → NotRun r.writes a b × NotRun r.words c d
  pub writes-place : r.writes.place ≡ place_of r.writes.number r.writes.taken
  pub words-place : r.words.place ≡ place_of r.words.number r.words.taken

-- Demand 3, of what it answers: every write and every word was taken, and the two ends agree
pub record BothAgree (log : List ℕ) (r : BothEnds) (b d : Lent) : Type 0 where
  pub writes-taken : r.writes.taken ≡ length (writes log)
  pub writes-number : r.writes.number ≡ 0
  pub words-taken : r.words.taken ≡ r.packed.length
  pub words-number : r.words.number ≡ 0
  pub sides_agree : SidesAgree log r.packed.length (machine_at b) (machine_at d)
