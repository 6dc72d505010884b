use mathlib.Core.Path.{refl}
use Rattle.state.specs.Fresh.{fresh_stream}
use Rattle.state.proofs.fresh_stream.Goals as goal

pub returns : goal.returns
unfolding fresh_stream
returns c = refl
