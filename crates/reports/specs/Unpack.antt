-- What the program `unpack` writes for what it reads, both as bytes: document 01, "Packer and unpacker".
use Rattle.std.specs.Prelude.{List, ℕ}
use Rattle.stream.specs.Read.{writes}
use Rattle.stream.specs.Output.{on_bytes}
use Rattle.stream.specs.Unpack.{unpack}
use Rattle.stream.specs.Input.{longest_log}
use Rattle.listing.specs.Text.{ports_text}
use Rattle.reports.specs.Report.{report_by}

-- the text of a log's words
abbrev pub log_text : List ℕ → List ℕ
log_text log = ports_text (writes log)

-- "The unpack program reads standard input, little-endian words." "A list can give up to 16,384 pairs; the program
-- prints them all and never answers 10."
abbrev pub unpack_report : List ℕ → List ℕ
unpack_report input = report_by log_text (on_bytes (unpack longest_log) input)
