use Rattle.state.specs.Sound.{sound_core, sound}
use Rattle.state.proofs.Engine.is_sound.Goals as goal

pub returns : goal.returns
unfolding sound_core sound
returns c = simp (c.is_sound-3.ensures, c.is_sound-2.ensures, c.is_sound.ensures)
