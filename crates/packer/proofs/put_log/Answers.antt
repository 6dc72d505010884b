use native.Mathlib.Omega.{arith}
use Rattle.packer.proofs.ValueLaws.{length-writes_of}
use Rattle.packer.proofs.PutLaws.{put_log_start, to-room, group-fits, put_log_more, put_log_end}
use Rattle.packer.proofs.put_log.Goals as goal

pub loop-next-init : goal.loop-next-init
loop-next-init c =
    put_log_start (omega (arith, length-writes_of c.args.log.now)) c.requires.read c.requires.fits

pub slice_bounds-put_group-count : goal.slice_bounds-put_group-count
slice_bounds-put_group-count c =
    to-room c.loop-next.invariant (omega (arith, length-writes_of c.args.log.now))

pub slice_bounds-put_group-start : goal.slice_bounds-put_group-start
slice_bounds-put_group-start c =
    to-room c.loop-next.invariant (omega (arith, length-writes_of c.args.log.now))

pub put_group-to-requires : goal.put_group-to-requires
put_group-to-requires c =
    group-fits c.loop-next.invariant (omega (arith, length-writes_of c.args.log.now))

pub loop-next-preserved : goal.loop-next-preserved
loop-next-preserved c =
    put_log_more c.loop-next.invariant (omega (arith, length-writes_of c.args.log.now)) c.put_group-to.new.words
    c.put_group-to.ensures

pub returns : goal.returns
returns c = put_log_end c.loop-next.invariant (omega (arith, length-writes_of c.args.log.now))
