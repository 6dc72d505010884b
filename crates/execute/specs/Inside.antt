-- Inner: no contract of a call cites it.
use Rattle.std.specs.Prelude.{cond, ℕ}
use Rattle.state.specs.declared.Engine.{Engine}
use Rattle.state.specs.Sound.{sound}
use Rattle.polygons.specs.Buffers.{long_enough}

-- the numbers that come before the step's own: 1, then 2; 0 where neither falls
unfoldable pub first_number : Engine → ℕ → ℕ → ℕ
first_number e vertices polygons =
    cond (sound e) (cond (long_enough e.core.registers.geometry.rooms vertices polygons) 0 2) 1
