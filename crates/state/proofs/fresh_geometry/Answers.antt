use mathlib.Core.Path.{refl}
use Rattle.state.specs.Fresh.{fresh_geometry}
use Rattle.state.proofs.fresh_geometry.Goals as goal

pub returns : goal.returns
unfolding fresh_geometry
returns c = refl
