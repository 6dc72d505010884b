use mathlib.Core.Path.{refl}
use Rattle.state.specs.Sound.{sound_transform}
use Rattle.state.proofs.Transform.is_sound.Goals as goal

pub returns : goal.returns
unfolding sound_transform
returns c = refl
