use Rattle.state.proofs.SoundLaws.{ranges}
use Rattle.readout.proofs.put_transform.Goals as goal

pub put_levels-requires-clause-s_bound : goal.put_levels-requires-clause-s_bound
put_levels-requires-clause-s_bound c =
    let r = ranges c.args.t.now c.requires.sound in
    (r.level, r.projection, r.texture)
