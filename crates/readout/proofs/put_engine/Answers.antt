use Rattle.state.proofs.SoundLaws.{sound-parts}
use Rattle.readout.proofs.put_engine.Goals as goal

pub put_registers-requires-clause-sound : goal.put_registers-requires-clause-sound
put_registers-requires-clause-sound c =
    let parts = sound-parts c.args.e.now c.requires.sound in
    (parts.transform, parts.stream)

pub put_lists-requires-clause-sound : goal.put_lists-requires-clause-sound
put_lists-requires-clause-sound c = (sound-parts c.args.e.now c.requires.sound).geometry
