-- Demand 3 of the engine: document 01, "The two sides of demand 3". One claim about the whole log, over the definitions
-- that the contracts of `pack`, `port_write`, `word` and `feed_words` cite.
use Rattle.std.specs.Prelude.{true, false, List, ◌≡◌, ℕ, ℤ, length}
use Rattle.stream.specs.Pending.{is_pending}
use Rattle.stream.specs.Read.{writes}
use Rattle.stream.specs.Pack.{pack}
use Rattle.stream.specs.Feed.{fed, after, AllTaken}
use Rattle.state.specs.declared.Engine.{Engine}
use Rattle.state.specs.Sound.{pending_of, sound}
use Rattle.polygons.specs.Buffers.{buffered}
use Rattle.execute.specs.Execute.{buffers_long}
use Rattle.execute.specs.Call.{machine_of, word_reply, port_reply, words_reply}
use Rattle.equivalence.specs.EqualEnds.{SidesAgree}

-- "At the start both sides have equal engines, sound and with no command begun, and equal lent lists, on which number 2
-- does not fall."
pub record Start (e : Engine) (vertices : List ℤ) (polygons : List ℕ) : Type 0 where
  pub is-sound : sound e ≡ true
  pub none-pending : is_pending (pending_of e.stream) ≡ false
  pub long-enough : buffers_long (buffered e.core vertices polygons) ≡ true

-- "Demand 3 is a single claim about the whole log": "every call answers number 0, the two ends are equal with no
-- command begun, and the packed length is the one computed from the log"
pub record EngineDemand3 (capacity : ℕ) (log : List ℕ) (e : Engine) (vertices : List ℤ) (polygons : List ℕ)
    : Type 0 where
  -- "One side makes a port write call for each pair of the log, in order."
  pub writes-taken : AllTaken port_reply (machine_of e vertices polygons) (writes log)
  -- "The other makes a word call for each packed word, in order."
  pub words-taken : AllTaken word_reply (machine_of e vertices polygons) (pack capacity log).words
  pub sides_agree : SidesAgree log (length (pack capacity log).words)
      (after port_reply (machine_of e vertices polygons) (writes log))
      (after word_reply (machine_of e vertices polygons) (pack capacity log).words)
  -- T-01: "Demands 2 and 3 read the same for either way of feeding": the same words in one call
  pub words_in_one_call : words_reply (machine_of e vertices polygons) (pack capacity log).words
      ≡ fed (length (pack capacity log).words) 0
      (after word_reply (machine_of e vertices polygons) (pack capacity log).words)

-- "The packer accepts a log when it answers number 0; the packed words are then its output up to the length."
abbrev pub EngineDemand3Holds : Type 0
EngineDemand3Holds =
    (capacity : ℕ) (log : List ℕ) (e : Engine) (vertices : List ℤ) (polygons : List ℕ)
    → (pack capacity log).number ≡ 0 → Start e vertices polygons → EngineDemand3 capacity log e vertices polygons
