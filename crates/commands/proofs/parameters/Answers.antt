use mathlib.Core.Path.{◌≡◌, ap, ◌∙◌}
use borrow.Author.Tests.{eq-eqb, ne_eqb}
use Rattle.commands.specs.Commands.{lookup}
use Rattle.commands.proofs.Table.{table_at, unmark, unmark-lookup}
use Rattle.commands.proofs.parameters.Goals as goal
use Rattle.commands.proofs.parameters.Goals.{After-entry-count}

-- the entry, read back
told : (c : After-entry-count) → unmark c.entry-count.result ≡ lookup c.args.byte
told c =
    let b = c.args.byte in
    ap unmark (c.entry-count.ensures ∙ table_at b 0 c.ranges.byte.fits) ∙ unmark-lookup b

pub returns-then-count : goal.returns-then-count
returns-then-count c = rw (← told (goal.at.returns-then-count c).After-entry-count) (simp (eq-eqb _ 255 c.if-count.true))

pub returns-else-count : goal.returns-else-count
returns-else-count c = rw (← told (goal.at.returns-else-count c).After-entry-count) (simp (ne_eqb _ 255 c.if-count.false))
