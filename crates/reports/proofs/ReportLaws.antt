-- The report of a call's output, from the answer and the output buffer.
use mathlib.Core.List.{List}
use mathlib.Core.Path.{◌≡◌, sym, ap}
use Prim.Native.Nat.{ℕ, ◌≤◌}
use native.Mathlib.Omega.{arith}
use lib.ListN.{length, take}
use lib.Seq.{length-take-le}
use borrow.Author.Tests.{eq-eqb}
use Rattle.std.specs.Prelude.{Ok}
use Rattle.stream.specs.declared.Form.{Form}
use Rattle.stream.specs.declared.Form.TheVariants.{Packed, Log}
use Rattle.stream.specs.declared.OutputAnswer.{OutputAnswer}
use Rattle.stream.specs.Read.{writes}
use Rattle.stream.specs.Output.{Output, answer_to, on_bytes, Stores}
use Rattle.stream.proofs.OutputLaws.{stored-words, stored-length}
use Rattle.stream.proofs.UnpackLaws.{length-writes}
use Rattle.conversions.specs.Convert.{convert, longest_output}
use Rattle.listing.proofs.LineLaws.{length-ports_text, length-words_text}
use Rattle.reports.specs.Inside.{output_text, longest_text, report_of}

-- the text of an output fits the report's buffer
pub text-fits : (form : Form) (words : List ℕ) → length words ≤ longest_output form
    → length (output_text form words) ≤ longest_text form
text-fits Log words h = omega (arith, length-words_text words)
text-fits Packed words h = omega (arith, length-ports_text (writes words), length-writes words)

-- and so does the line of a refusal
pub line_fits : (form : Form) → 30 ≤ longest_text form
line_fits Log = omega arith
line_fits Packed = omega arith

-- What a call on an input that stored n words left in its output buffer, `stored`: the words of its report
pub record Answered (form : Form) (input : List ℕ) (n : ℕ) (stored : List ℕ) : Type 0 where
  pub report : output_text form (take n stored) ≡ report_of form input
  pub within : n ≤ length stored
  pub lent : length (take n stored) ≡ n
  pub few : n ≤ longest_output form

pub answered : (form : Form) (input : List ℕ) (n : ℕ) {old new : List ℕ} → length old ≡ longest_output form
    → Stores (on_bytes (convert form (length old)) input) (answer_to (Ok n)) old new → length new ≡ length old
    → Answered form input n new
answered form input n {old} {new} long s k =
    let o : Output = on_bytes (convert form (longest_output form)) input in
    let t : Stores o (answer_to (Ok n)) old new = rw long at s in
    let zero : o.number ≡ 0 = ap (λ (x : OutputAnswer). x.number) (sym t.answer) in
    let m : n ≤ length new = stored-length t in
    record {
      report = rw (eq-eqb o.number 0 zero, stored-words t);
      within = m;
      lent = length-take-le n new m;
      few = omega (arith, m, k, long);
    }
