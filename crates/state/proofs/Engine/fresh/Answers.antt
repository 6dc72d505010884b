use Rattle.state.specs.Fresh.{fresh}
use Rattle.state.proofs.Engine.fresh.Goals as goal

pub returns : goal.returns
unfolding fresh
returns c = simp (c.fresh_transform.ensures, c.fresh_geometry.ensures, c.fresh_stream.ensures)
