use Rattle.state.specs.Sound.{coloured}
use borrow.Author.Rules.{rules}
use Rattle.state.proofs.is_coloured.Goals as goal

pub returns : goal.returns
unfolding coloured
returns c = search rules
