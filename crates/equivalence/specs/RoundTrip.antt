-- Demand 2 of a log that is packed and unpacked by calls that were really made: "Unpacking a packed log gives back the
-- log"; document 01, "Packer and unpacker": "0 for commands without parameters".
use Rattle.std.specs.Prelude.{List, ◌≡◌, ℕ, ◌≤◌, length, take}
use Rattle.stream.specs.declared.OutputAnswer.{OutputAnswer}
use Rattle.stream.specs.Read.{writes}
use Rattle.stream.specs.Output.{Stores}
use Rattle.stream.specs.Pack.{pack}
use Rattle.stream.specs.Unpack.{log_of, unpack, zeroed}

-- A packer answered `packed` for the log, its output `old` before and `output` after; an unpacker answered `unpacked`
-- for that output up to its length, its own output `blank` before and `back` after. Their contracts, and room for the
-- log.
pub record RoundTrip (log : List ℕ) (packed unpacked : OutputAnswer) (old output blank back : List ℕ) : Type 0 where
  pub packs : Stores (pack (length old) log) packed old output
  pub accepted : packed.number ≡ 0
  pub unpacks : Stores (unpack (length blank) (take packed.length output)) unpacked blank back
  pub room : length log ≤ length blank

-- the log came back: the whole of it where the values written to ports without parameters were 0
pub record LogBack (log : List ℕ) (unpacked : OutputAnswer) (back : List ℕ) : Type 0 where
  pub number : unpacked.number ≡ 0
  pub log_length : unpacked.length ≡ length log
  pub log_back : take unpacked.length back ≡ log_of (zeroed (writes log))
  pub same_log : zeroed (writes log) ≡ writes log → take unpacked.length back ≡ log
