use mathlib.Core.List.{[]}
use mathlib.Core.Path.{◌≡◌, sym, ap, ◌∙◌}
use native.Mathlib.Omega.{arith}
use lib.ListN.{length, get_or}
use lib.Seq.{take_all}
use Rattle.words.proofs.Over.{over_none, over-all, over-next}
use Rattle.stream.specs.Command.{Write}
use Rattle.packer.specs.Inside.{writes_of, values}
use Rattle.packer.proofs.ValueLaws.{length-writes_of, length-values, value_at, write-of}
use Rattle.packer.proofs.put_values.Goals as goal

pub loop-j-init : goal.loop-j-init
loop-j-init c = sym (over_none c.args.words.now)

pub loop-j-preserved : goal.loop-j-preserved
loop-j-preserved c =
    let log = c.args.writes.now in
    let j = c.loop-j.j in
    let n = length-values (writes_of log) ∙ length-writes_of log in
    let v : get_or (values (writes_of log)) j 0 ≡ get_or (get_or log j []) 1 0 =
    value_at (writes_of log) j (omega (arith, length-writes_of log))
    ∙ ap (λ (w : Write). w.value) (write-of log j [] c.loop-j-test.true) in
    rw (← v, c.loop-j.invariant)
    (over-next (values (writes_of log)) c.args.words.now j 0 (omega (arith, n)) (omega arith))

pub returns : goal.returns
returns c =
    let log = c.args.writes.now in
    let n = length-values (writes_of log) ∙ length-writes_of log in
    let j : c.loop-j.j ≡ length (values (writes_of log)) = omega (arith, n) in
    c.loop-j.invariant
    ∙ rw (j, take_all (length (values (writes_of log))) (values (writes_of log)) (omega arith))
    (over-all (values (writes_of log)) c.args.words.now (omega (arith, n)))
