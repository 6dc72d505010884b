-- Clearing keeps the record sound.
use mathlib.Core.Bool.{true, false}
use mathlib.Core.Path.{◌≡◌}
use native.Mathlib.Omega.{arith}
use Rattle.state.specs.declared.Transform.{Transform}
use Rattle.state.specs.declared.Geometry.{Geometry}
use Rattle.state.specs.declared.Registers.{Registers}
use Rattle.state.specs.declared.Engine.{Engine}
use Rattle.state.specs.With.{with_overflow, with_transform, with_geometry, with_registers}
use Rattle.state.specs.Sound.{sound_transform, sound_geometry, sound}
use Rattle.state.proofs.SoundLaws.{Ranges, ranges, in_ranges, sound-parts, parts-core, core-kept}
use Rattle.registers.specs.Registers.{answer_with, error_cleared, clear_error, clear_overflow}

error_in : (t : Transform) → Ranges t → Ranges (error_cleared t)
unfolding error_cleared
error_in t r = record { mode = r.mode; level = r.level; projection = omega arith; texture = r.texture }

overflow_in : (g : Geometry) → sound_geometry g ≡ true → sound_geometry (with_overflow g false) ≡ true
unfolding sound_geometry
overflow_in g h = h

-- sound registers put in
with_kept : (e : Engine) (r : Registers) → sound e ≡ true → sound_transform r.transform ≡ true
    → sound_geometry r.geometry ≡ true → sound (answer_with e r).engine ≡ true
unfolding answer_with
with_kept e r h t g =
    let c = with_registers e.core r in
    rw h (core-kept e c h (parts-core c t g))

pub clear_error_lem : (e : Engine) → sound e ≡ true → sound (clear_error e).engine ≡ true
unfolding clear_error
clear_error_lem e h =
    let r = e.core.registers in
    let t = r.transform in
    let parts = sound-parts e h in
    with_kept e (with_transform r (error_cleared t)) h
    (in_ranges (error_cleared t) (error_in t (ranges t parts.transform))) parts.geometry

pub clear_overflow_lem : (e : Engine) → sound e ≡ true → sound (clear_overflow e).engine ≡ true
unfolding clear_overflow
clear_overflow_lem e h =
    let r = e.core.registers in
    let parts = sound-parts e h in
    with_kept e (with_geometry r (with_overflow r.geometry false)) h parts.transform
    (overflow_in r.geometry parts.geometry)
