-- What a program writes for the output of a call on what it could read (reading 32): document 01, "Packer and unpacker".
use Rattle.std.specs.Prelude.{cond, List, ℕ, eqb}
use Rattle.stream.specs.Output.{Output}
use Rattle.listing.specs.Text.{refused_line}

-- the text of an output's words, or its refusal: "A refusal prints one line instead, number and place in decimal, as
-- `refused 3 0`."
abbrev pub report_by : (List ℕ → List ℕ) → Output → List ℕ
report_by text o = cond (eqb o.number 0) (text o.words) (refused_line o.number o.place)
