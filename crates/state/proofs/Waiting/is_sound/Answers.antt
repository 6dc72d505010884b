use Rattle.state.specs.Sound.{sound_waiting}
use Rattle.state.proofs.Waiting.is_sound.Goals as goal

pub returns : goal.returns
unfolding sound_waiting
returns c =
    simp (
      c.is_coloured-3.ensures,
      c.is_coloured-2.ensures,
      c.is_coloured.ensures,
      c.needed.ensures,
      c.is_closed.ensures,
      c.from-list.ensures,
      c.is_list.ensures,
    )
