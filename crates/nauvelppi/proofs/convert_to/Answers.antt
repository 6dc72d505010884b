use mathlib.Core.Path.{◌≡◌, refl, sym}
use Prim.Native.Nat.{ℕ}
use lib.ListN.{length}
use lib.Seq.{length-take-le}
use Rattle.std.specs.Prelude.{Result, Ok, Err}
use Rattle.std.proofs.lemmas.Result.{err_from_is_err_and}
use Rattle.stream.specs.declared.Refused.{Refused}
use Rattle.stream.specs.Output.{answer_to}
use Rattle.conversions.specs.Convert.{convert}
use Rattle.nauvelppi.proofs.BytesLaws.{refused-output, Made, length-fits, stores-bytes, stores-no-bytes}
use Rattle.nauvelppi.proofs.convert_to.Goals as goal
use Rattle.nauvelppi.proofs.convert_to.Goals.{After-convert_bytes}

pub returns-then-output-ne0 : goal.returns-then-output-ne0
returns-then-output-ne0 c =
    rw c.refused_at.ensures
    (refused-output (convert c.args.form) c.args.input.now c.args.output.now _ c.if-output-ne0.true refl)

-- the call of the conversion, and what it came to
made : (c : After-convert_bytes) (r : Result ℕ Refused) → c.convert_bytes.result ≡ r
    → Made c.args.form (length c.args.output.now) c.args.input.now c.args.words.now c.convert_bytes.new.output
    c.min-capacity.result (answer_to r)
made c r e =
    record {
      whole = c.if-output-ne0.false;
      capacity = c.min-capacity.ensures;
      long = c.requires;
      stores = rw e at c.convert_bytes.ensures;
      kept = c.convert_bytes.auto.output;
    }

pub returns-in_err-length : goal.returns-in_err-length
returns-in_err-length c =
    let p = err_from_is_err_and c.from_residual.result c.from_residual.ensures.1 in
    let m = made (goal.at.returns-in_err-length c).After-convert_bytes (Err c.in_err-length.field-0.0) c.in_err-length.was in
    rw (p.1, p.2) (stores-no-bytes m refl c.args.output.now)

pub slice_bounds-write_words-end : goal.slice_bounds-write_words-end
slice_bounds-write_words-end c =
    length-fits
    (made (goal.at.slice_bounds-write_words-end c).After-convert_bytes (Ok c.in_ok-length.length) c.in_ok-length.was)

pub slice_bounds-write_words-end-2 : goal.slice_bounds-write_words-end-2
slice_bounds-write_words-end-2 c =
    sym
    (length-take-le _ _
    (length-fits
    (made (goal.at.slice_bounds-write_words-end-2 c).After-convert_bytes (Ok c.in_ok-length.length) c.in_ok-length.was)))

pub returns : goal.returns
returns c =
    stores-bytes (made (goal.at.returns c).After-convert_bytes (Ok c.in_ok-length.length) c.in_ok-length.was)
    refl c.write_words.ensures
