use Rattle.commands.proofs.Commands.{hole_of_four}
use borrow.Author.Rules.{rules}
use Rattle.commands.proofs.has_hole.Goals as goal

pub returns : goal.returns
returns c = hole_of_four c.args.bytes (search rules)
