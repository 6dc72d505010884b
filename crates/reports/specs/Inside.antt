-- Inner: what the function requires and promises that writes the report of either program, over the input's form. No
-- contract of another crate cites this, and a reader need not believe it.
use Rattle.std.specs.Prelude.{List, ℕ}
use Rattle.stream.specs.declared.Form.{Form}
use Rattle.stream.specs.declared.Form.TheVariants.{Packed, Log}
use Rattle.stream.specs.Output.{on_bytes}
use Rattle.conversions.specs.Convert.{convert, longest_output}
use Rattle.listing.specs.Text.{words_text}
use Rattle.reports.specs.Report.{report_by}
use Rattle.reports.specs.Unpack.{log_text}

-- the text of the words that an input is converted to
abbrev pub output_text : Form → List ℕ → List ℕ
output_text Packed = log_text
output_text Log = words_text

-- how many bytes the longest text has
abbrev pub longest_text : Form → ℕ
longest_text Packed = 294929
longest_text Log = 73745

abbrev pub report_of : Form → List ℕ → List ℕ
report_of form input = report_by (output_text form) (on_bytes (convert form (longest_output form)) input)
