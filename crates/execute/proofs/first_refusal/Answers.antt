use mathlib.Core.Path.{◌≡◌, sym, ◌∙◌}
use mathlib.Core.Bool.{true}
use Rattle.state.specs.Sound.{sound}
use Rattle.execute.proofs.Calls.{not_sound_lem, not-long, neither, sound-rooms}
use Rattle.execute.proofs.first_refusal.Goals as goal
use Rattle.execute.proofs.first_refusal.Goals.{Else-not-is_sound}

pub returns-then-not-is_sound : goal.returns-then-not-is_sound
returns-then-not-is_sound c =
    sym (not_sound_lem c.args.e.now c.args.vertices c.args.polygons (sym c.is_sound.ensures ∙ c.if-not-is_sound.true))

is-sound : (c : Else-not-is_sound) → sound c.args.e.now ≡ true
is-sound c = sym c.is_sound.ensures ∙ c.if-not-is_sound.false

pub is_long_enough-requires : goal.is_long_enough-requires
is_long_enough-requires c =
    sound-rooms c.args.e.now (is-sound (goal.at.is_long_enough-requires c).Else-not-is_sound)

pub returns-then-is_long_enough : goal.returns-then-is_long_enough
returns-then-is_long_enough c =
    sym (neither c.args.e.now c.args.vertices c.args.polygons
    (is-sound (goal.at.returns-then-is_long_enough c).Else-not-is_sound)
    (sym c.is_long_enough.ensures ∙ c.if-is_long_enough.true))

pub returns-else-is_long_enough : goal.returns-else-is_long_enough
returns-else-is_long_enough c =
    sym (not-long c.args.e.now c.args.vertices c.args.polygons
    (is-sound (goal.at.returns-else-is_long_enough c).Else-not-is_sound)
    (sym c.is_long_enough.ensures ∙ c.if-is_long_enough.false))
