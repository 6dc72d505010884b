-- What the program `pack` writes for what it reads, both as bytes: the first line `words N`, then N lines of eight
-- lower-case hex digits; or document 01's line of a refusal.
use Rattle.std.specs.Prelude.{List, ℕ}
use Rattle.stream.specs.Output.{on_bytes}
use Rattle.stream.specs.Pack.{pack}
use Rattle.stream.specs.Input.{most_words}
use Rattle.listing.specs.Text.{words_text}
use Rattle.reports.specs.Report.{report_by}

-- The program reads a log from standard input, little-endian words, address then value; input that is not whole words
-- or over 8,192 words is 7. Document 01, 9: "packed list would pass 8,192 words", so that an output of that length is
-- never shorter than needed
abbrev pub pack_report : List ℕ → List ℕ
pack_report input = report_by words_text (on_bytes (pack most_words) input)
