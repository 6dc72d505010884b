use mathlib.Core.Path.{refl}
use Rattle.matrix.specs.Matrix.{unit}
use Rattle.state.specs.Fresh.{fresh_transform}
use Rattle.state.proofs.fresh_transform.Goals as goal

pub returns : goal.returns
unfolding fresh_transform unit
returns c = refl
