-- Parts of the record with one field changed, and what calls answer.
use Rattle.std.specs.Prelude.{Bool, List, ℕ, ℤ}
use Rattle.state.specs.declared.Pair.{Pair}
use Rattle.state.specs.declared.Single.{Single}
use Rattle.state.specs.declared.Transform.{Transform}
use Rattle.state.specs.declared.Coordinates.{Coordinates}
use Rattle.state.specs.declared.Waiting.{Waiting}
use Rattle.state.specs.declared.Counts.{Counts}
use Rattle.state.specs.declared.Geometry.{Geometry}
use Rattle.state.specs.declared.Registers.{Registers}
use Rattle.state.specs.declared.Core.{Core}
use Rattle.state.specs.declared.Engine.{Engine}
use Rattle.state.specs.declared.Answer.{Answer}

-- ---- the matrices

abbrev pub with_matrix : Single → List ℤ → Single
with_matrix s m = record { matrix = m; slot = s.slot; level = s.level }

abbrev pub with_pair : Transform → Pair → Transform
with_pair t p = record { pair = p; projection = t.projection; texture = t.texture; mode = t.mode; error = t.error }

abbrev pub with_projection : Transform → Single → Transform
with_projection t s = record { pair = t.pair; projection = s; texture = t.texture; mode = t.mode; error = t.error }

abbrev pub with_texture : Transform → Single → Transform
with_texture t s = record { pair = t.pair; projection = t.projection; texture = s; mode = t.mode; error = t.error }

abbrev pub with_mode : Transform → ℕ → Transform
with_mode t n = record { pair = t.pair; projection = t.projection; texture = t.texture; mode = n; error = t.error }

abbrev pub with_error : Transform → Bool → Transform
with_error t b = record { pair = t.pair; projection = t.projection; texture = t.texture; mode = t.mode; error = b }

-- ---- vertices and polygons

-- the geometry part by its fields
abbrev geometry : ℕ → ℕ → ℕ → Coordinates → Waiting → Counts → Counts → Bool → Geometry
geometry colour given attributes position waiting used rooms overflow =
    record {
      colour = colour;
      given = given;
      attributes = attributes;
      position = position;
      waiting = waiting;
      used = used;
      rooms = rooms;
      overflow = overflow;
    }

abbrev pub with_colour : Geometry → ℕ → Geometry
with_colour g n = geometry n g.given g.attributes g.position g.waiting g.used g.rooms g.overflow

abbrev pub with_given : Geometry → ℕ → Geometry
with_given g n = geometry g.colour n g.attributes g.position g.waiting g.used g.rooms g.overflow

abbrev pub with_attributes : Geometry → ℕ → Geometry
with_attributes g n = geometry g.colour g.given n g.position g.waiting g.used g.rooms g.overflow

abbrev pub with_position : Geometry → Coordinates → Geometry
with_position g p = geometry g.colour g.given g.attributes p g.waiting g.used g.rooms g.overflow

abbrev pub with_waiting : Geometry → Waiting → Geometry
with_waiting g w = geometry g.colour g.given g.attributes g.position w g.used g.rooms g.overflow

abbrev pub with_used : Geometry → Counts → Geometry
with_used g n = geometry g.colour g.given g.attributes g.position g.waiting n g.rooms g.overflow

abbrev pub with_overflow : Geometry → Bool → Geometry
with_overflow g b = geometry g.colour g.given g.attributes g.position g.waiting g.used g.rooms b

-- ---- the engine

abbrev pub with_transform : Registers → Transform → Registers
with_transform r t = record { transform = t; geometry = r.geometry }

abbrev pub with_geometry : Registers → Geometry → Registers
with_geometry r g = record { transform = r.transform; geometry = g }

abbrev pub with_registers : Core → Registers → Core
with_registers c r = record { registers = r; stacks = c.stacks }

abbrev pub with_core : Engine → Core → Engine
with_core e c = record { core = c; stream = e.stream }

-- the same engine with these rooms
unfoldable pub with_rooms : Engine → ℕ → ℕ → Engine
with_rooms e vertices polygons =
    let g : Geometry = e.core.registers.geometry in
    let rooms : Counts = record { vertices = vertices; polygons = polygons } in
    with_core e
    (with_registers e.core
    (with_geometry e.core.registers
    (geometry g.colour g.given g.attributes g.position g.waiting g.used rooms g.overflow)))

-- ---- what a call answers

-- a number and an engine; document 01: "The answer carries a place [..] otherwise 0."
abbrev pub answered : ℕ → Engine → Answer
answered n e = record { number = n; place = 0; engine = e }
