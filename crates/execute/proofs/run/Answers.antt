use Rattle.state.proofs.SoundLaws.{core-parts, ranges}
use Rattle.execute.proofs.run.Goals as goal

pub run_stack-requires : goal.run_stack-requires
run_stack-requires c = (ranges _ (core-parts _ c.requires.sound).0).level

pub run_drawing-requires-clause-sound : goal.run_drawing-requires-clause-sound
run_drawing-requires-clause-sound c = (core-parts _ c.requires.sound).1
