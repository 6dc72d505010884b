use mathlib.Core.Path.{ap, ◌∙◌}
use Prim.Native.Nat.{ℕ}
use Rattle.std.specs.Prelude.{Option, unwrap_or}
use Rattle.commands.specs.Commands.{count}
use Rattle.commands.proofs.count.Goals as goal

pub returns : goal.returns
unfolding count
returns c = c.unwrap_or.ensures ∙ ap (λ (o : Option ℕ). unwrap_or o 0) c.parameters.ensures
