use mathlib.Core.Path.{sym, ◌∙◌}
use Rattle.state.specs.Fresh.{start}
use Rattle.state.specs.With.{with_rooms}
use Rattle.state.proofs.Engine.start.Goals as goal

pub returns-then-not-rooms_allowed : goal.returns-then-not-rooms_allowed
unfolding start
returns-then-not-rooms_allowed c =
    simp (
      sym c.rooms_allowed.ensures ∙ c.if-not-rooms_allowed.true,
      c.answered.ensures,
      c.into.ensures,
      c.fresh-engine.ensures,
    )

pub returns : goal.returns
unfolding start with_rooms
returns c =
    simp (
      sym c.rooms_allowed.ensures ∙ c.if-not-rooms_allowed.false,
      c.answered-2.ensures,
      c.fresh-engine.ensures,
    )
