use Rattle.state.specs.Sound.{sound_geometry}
use Rattle.state.proofs.Geometry.is_sound.Goals as goal

pub returns : goal.returns
unfolding sound_geometry
returns c = simp (c.rooms_allowed.ensures, c.is_sound.ensures)
