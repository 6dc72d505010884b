use mathlib.Core.Path.{sym}
use native.Mathlib.Omega.{arith}
use lib.ListN.{take}
use Rattle.listing.proofs.PutLaws.{length-with_bytes}
use Rattle.reports.specs.Inside.{output_text}
use Rattle.reports.proofs.ReportLaws.{text-fits, Answered, answered}
use Rattle.reports.proofs.put_report.Goals as goal
use Rattle.reports.proofs.put_report.Goals.{In-Ok}

-- what the call left
left : (c : In-Ok) → Answered c.args.form c.args.input.now c.in-Ok.length c.convert_bytes.new.output
left c =
    answered c.args.form c.args.input.now c.in-Ok.length c.requires.words_len c.in-Ok.ensures
    c.convert_bytes.auto.output

pub slice_bounds-put_output-end : goal.slice_bounds-put_output-end
slice_bounds-put_output-end c = (left (goal.at.slice_bounds-put_output-end c).In-Ok).within

pub slice_bounds-put_output-end-in-Ok : goal.slice_bounds-put_output-end-in-Ok
slice_bounds-put_output-end-in-Ok c = sym (left (goal.at.slice_bounds-put_output-end-in-Ok c).In-Ok).lent

pub returns-in-Ok-clause-puts : goal.returns-in-Ok-clause-puts
returns-in-Ok-clause-puts c = rw (left (goal.at.returns-in-Ok-clause-puts c).In-Ok).report at c.put_output.ensures

pub returns-in-Ok-clause-within : goal.returns-in-Ok-clause-within
returns-in-Ok-clause-within c =
    let l = left (goal.at.returns-in-Ok-clause-within c).In-Ok in
    let words = take c.in-Ok.length c.convert_bytes.new.output in
    rw c.put_output.ensures
    (omega (
      arith,
      length-with_bytes c.args.text.now (output_text c.args.form words),
      text-fits c.args.form words (omega (arith, l.lent, l.few)),
    ))
