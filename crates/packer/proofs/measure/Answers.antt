use native.Mathlib.Omega.{arith}
use Rattle.std.proofs.lemmas.Result.{err_from_is_err_and}
use Rattle.packer.specs.Inside.{writes_of}
use Rattle.packer.proofs.ValueLaws.{length-writes_of}
use Rattle.packer.proofs.GroupLaws.{measure_start, measure_more, measure_stopped, measure_end}
use Rattle.packer.proofs.measure.Goals as goal

pub loop-next-init : goal.loop-next-init
loop-next-init c = measure_start (writes_of c.args.log.now)

pub returns-in_err-total : goal.returns-in_err-total
returns-in_err-total c =
    let p = err_from_is_err_and c.from_residual.result c.from_residual.ensures.1 in
    rw (p.1, p.2) (measure_stopped c.loop-next.invariant _ c.in_err-total.ensures)

pub loop-next-preserved : goal.loop-next-preserved
loop-next-preserved c =
    measure_more c.loop-next.invariant (omega (arith, length-writes_of c.args.log.now)) c.in_ok-total.ensures

pub returns : goal.returns
returns c = measure_end c.loop-next.invariant (omega (arith, length-writes_of c.args.log.now))
