-- Demands 2 and 3 of the calls that C makes, by their contracts alone. Logs and lists are bytes, little-endian words;
-- the contracts of `nauvelppi_word`, `nauvelppi_port_write` and `nauvelppi_words` are those of `word`, `port_write` and
-- `feed_words`, and that of `nauvelppi_word_in_place` is `word`'s too, of its answer and the record that it leaves
-- (`in_place`).
use Rattle.std.specs.Prelude.{List, ◌≡◌, ℕ, ◌*◌, ◌%◌, ◌≤◌, length, take}
use Rattle.words.specs.Words.{words_of, bytes_of, AllBelow}
use Rattle.stream.specs.declared.OutputAnswer.{OutputAnswer}
use Rattle.stream.specs.Read.{writes}
use Rattle.stream.specs.Pack.{pack}
use Rattle.stream.specs.Unpack.{log_of, unpack, zeroed}
use Rattle.equivalence.specs.Calls.{Lent, BothSides, CallsAgree}
use Rattle.nauvelppi.specs.Bytes.{on_all_bytes, StoresBytes}

-- `nauvelppi_pack` answered `packed` and accepted the log, its output `old` before and `output` after
pub record PackedForC (log : List ℕ) (packed : OutputAnswer) (old output : List ℕ) : Type 0 where
  pub are-bytes : AllBelow 256 log
  pub packs : StoresBytes (on_all_bytes pack (length old) log) packed old output
  pub accepted : packed.number ≡ 0

-- the bytes of the packed words: the output up to the length
abbrev pub packed_bytes : OutputAnswer → List ℕ → List ℕ
packed_bytes packed output = take (4 * packed.length) output

-- Demand 3: port writes one by one, and packed words one by one or many in one call
abbrev pub Demand3ForC : Type 0
Demand3ForC =
    (log : List ℕ) (packed : OutputAnswer) (old output : List ℕ) (s t : Lent) → PackedForC log packed old output
    → (b : BothSides (words_of log) (words_of (packed_bytes packed output)) s t) → CallsAgree packed.length b

-- the log came back: the whole of it where the values written to ports without parameters were 0
pub record BytesBack (log : List ℕ) (unpacked : OutputAnswer) (back : List ℕ) : Type 0 where
  pub number : unpacked.number ≡ 0
  pub log_length : 4 * unpacked.length ≡ length log
  pub log_back : take (length log) back ≡ bytes_of (log_of (zeroed (writes (words_of log))))
  pub same_log : zeroed (writes (words_of log)) ≡ writes (words_of log) → take (length log) back ≡ log

-- Demand 2: `nauvelppi_unpack` answered `unpacked` for the packed bytes, its output `blank` before and `back` after;
-- that has whole words, and room for the log
abbrev pub Demand2ForC : Type 0
Demand2ForC =
    (log : List ℕ) (packed unpacked : OutputAnswer) (old output blank back : List ℕ)
    → PackedForC log packed old output
    → StoresBytes (on_all_bytes unpack (length blank) (packed_bytes packed output)) unpacked blank back
    → length blank % 4 ≡ 0 → length log ≤ length blank → BytesBack log unpacked back
