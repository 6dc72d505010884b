-- The fresh engine, and what a start answers. Document 01, Matrices: "Fresh: all matrices unit, a stack of 496 numbers
-- of zero for each of position and vector, other slots and registers zero, mode 0, no list open."; T-02: "Slots become
-- 32", so 512 numbers (reading 38).
use Rattle.std.specs.Prelude.{Bool, false, cond, ◌&&◌, List, ℕ, leb, ℤ, pos, replicate}
use Rattle.matrix.specs.Matrix.{unit}
use Rattle.state.specs.declared.OpenList.TheVariants.{Closed}
use Rattle.state.specs.declared.Single.{Single}
use Rattle.state.specs.declared.Transform.{Transform}
use Rattle.state.specs.declared.Stacks.{Stacks}
use Rattle.state.specs.declared.Geometry.{Geometry}
use Rattle.state.specs.declared.Stream.{Stream}
use Rattle.state.specs.declared.Engine.{Engine}
use Rattle.state.specs.declared.Answer.{Answer}
use Rattle.state.specs.List.{number_of}
use Rattle.state.specs.With.{with_rooms, answered}
use Rattle.state.specs.Sizes.{vertex_width, most_vertices, most_polygons}

-- n zeros
abbrev pub zeros : ℕ → List ℤ
zeros n = replicate n (pos 0)

abbrev fresh_single : Single
fresh_single = record { matrix = unit; slot = zeros 16; level = 0 }

unfoldable pub fresh_transform : Transform
fresh_transform =
    record {
      pair = record { position = unit; vector = unit; level = 0 };
      projection = fresh_single;
      texture = fresh_single;
      mode = 0;
      error = false;
    }

abbrev pub fresh_stacks : Stacks
fresh_stacks = record { positions = zeros 512; vectors = zeros 512 }

abbrev no_vertex : List ℤ
no_vertex = zeros vertex_width

unfoldable pub fresh_geometry : Geometry
fresh_geometry =
    record {
      colour = 0;
      given = 0;
      attributes = 0;
      position = record { x = pos 0; y = pos 0; z = pos 0 };
      waiting = record { list = number_of Closed; first = no_vertex; second = no_vertex; third = no_vertex; count = 0 };
      used = record { vertices = 0; polygons = 0 };
      rooms = record { vertices = 1; polygons = 1 };
      overflow = false;
    }

unfoldable pub fresh_stream : Stream
fresh_stream = record { queue = 0; held = replicate 32 0; count = 0; dummy = false; port = 0 }

-- the fresh engine, with rooms 1 and 1: only a start chooses others (reading 8)
unfoldable pub fresh : Engine
fresh =
    record {
      core = record {
        registers = record { transform = fresh_transform; geometry = fresh_geometry };
        stacks = fresh_stacks;
      };
      stream = fresh_stream;
    }

-- ---- start

-- a room is from 1 to its limit
abbrev pub room_allowed : ℕ → ℕ → Bool
room_allowed limit n = leb 1 n && leb n limit

-- document 01, Vertices and polygons: "Rooms are chosen at start: 1 to 6,144 vertices, 1 to 2,048 polygons."
abbrev pub rooms_allowed : ℕ → ℕ → Bool
rooms_allowed vertices polygons = room_allowed most_vertices vertices && room_allowed most_polygons polygons

-- document 01: "11: room out of range"; "a refused start gives the fresh engine with rooms 1 and 1"
unfoldable pub start : ℕ → ℕ → Answer
start vertices polygons =
    cond (rooms_allowed vertices polygons) (answered 0 (with_rooms fresh vertices polygons)) (answered 11 fresh)
