use Rattle.unpacker.proofs.PutLaws.{put_more}
use Rattle.unpacker.proofs.put_command.Goals as goal

pub loop-j-preserved : goal.loop-j-preserved
loop-j-preserved c = put_more c.args.parameters.now _ c.args.to _ _ _ c.loop-j-test.true c.loop-j.invariant
