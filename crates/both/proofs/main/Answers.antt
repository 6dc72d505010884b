use mathlib.Core.Bool.{true}
use mathlib.Core.Path.{sym, ◌∙◌}
use Prim.Native.Nat.{◌≤◌}
use native.Mathlib.Omega.{arith}
use lib.Seq.{length-take-le}
use Rattle.stream.specs.declared.Form.TheVariants.{Log}
use Rattle.stream.specs.Input.{most_bytes}
use Rattle.stream.proofs.InputLaws.{input-fits}
use Rattle.both.proofs.main.Goals as goal

-- the input is not too long
pub slice_bounds-log-end : goal.slice_bounds-log-end
slice_bounds-log-end c =
    let read = c.in_ok-read.read in
    let fits : read ≤ most_bytes = input-fits Log read (sym c.is_input.ensures ∙ c.if-not-is_input.false) in
    omega (arith, fits)

pub slice_bounds-print_both-end : goal.slice_bounds-print_both-end
slice_bounds-print_both-end c =
    let read = c.in_ok-read.read in
    let fits : read ≤ most_bytes = input-fits Log read (sym c.is_input.ensures ∙ c.if-not-is_input.false) in
    sym (length-take-le _ c.read_words.new.buffer (omega (arith, fits)))
