use mathlib.Core.Path.{refl, sym, ap, subst, ◌∙◌}
use native.Mathlib.Omega.{arith}
use lib.ListN.{length}
use lib.Seq.{length-take-le}
use Rattle.stream.specs.Output.{Output, answer_to, Stores}
use Rattle.stream.proofs.InputLaws.{InputRead, input-read}
use Rattle.stream.proofs.OutputLaws.{stores-none}
use Rattle.conversions.specs.Convert.{convert}
use Rattle.conversions.proofs.ConvertLaws.{input-refused, input_converted}
use Rattle.conversions.proofs.convert_bytes.Goals as goal
use Rattle.conversions.proofs.convert_bytes.Goals.{After-read_words}

pub returns-then-not-is_input : goal.returns-then-not-is_input
returns-then-not-is_input c =
    rw c.refused_at.ensures
    (stores-none 7 0 _ c.args.output.now
    (input-refused c.args.form (length c.args.output.now) c.args.input.now
    (sym c.is_input.ensures ∙ c.if-not-is_input.true))
    refl)

-- the input is read
read : (c : After-read_words) → InputRead c.args.form c.args.input.now c.read_words.new.buffer
read c =
    input-read c.args.form c.args.input.now c.longest_list-words.result c.read_words.new.buffer
    (sym c.is_input.ensures ∙ c.if-not-is_input.false) c.longest_list-words.ensures
    c.read_words.ensures

pub slice_bounds-words-end : goal.slice_bounds-words-end
slice_bounds-words-end c = omega (arith, (read (goal.at.slice_bounds-words-end c).After-read_words).within)

pub slice_bounds-convert_words-end : goal.slice_bounds-convert_words-end
slice_bounds-convert_words-end c =
    let r = read (goal.at.slice_bounds-convert_words-end c).After-read_words in
    sym (length-take-le _ c.read_words.new.buffer (omega (arith, r.within)))

pub returns : goal.returns
returns c =
    let n = length c.args.output.now in
    let r = read (goal.at.returns c).After-read_words in
    subst (λ (o : Output). Stores o (answer_to c.convert_words.result) c.args.output.now c.convert_words.new.output)
    (ap (convert c.args.form n) r.words ∙ sym (input_converted c.args.form n c.args.input.now r.is-input))
    c.convert_words.ensures
