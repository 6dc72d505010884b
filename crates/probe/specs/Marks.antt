-- An engine that shows where its members stand. The k-th number or array of the record, from 1 on, has the mark k: k in
-- its lowest and in its highest byte, and minus that where it is signed. Every flag is set.
use Rattle.std.specs.Prelude.{true, List, ℕ, ◌*◌, ◌-◌, ℤ, negsuc, replicate}
use Rattle.state.specs.declared.Single.{Single}
use Rattle.state.specs.declared.Transform.{Transform}
use Rattle.state.specs.declared.Geometry.{Geometry}
use Rattle.state.specs.declared.Stacks.{Stacks}
use Rattle.state.specs.declared.Stream.{Stream}
use Rattle.probe.specs.declared.Marked.{Marked}

-- the mark of an unsigned number of 32 bits, and of 64 bits
abbrev mark32 : ℕ → ℕ
mark32 k = 0x0100_0001 * k

abbrev mark64 : ℕ → ℕ
mark64 k = 0x0100_0000_0000_0001 * k

-- minus a mark, for signed numbers
abbrev minus : ℕ → ℤ
minus n = negsuc (n - 1)

-- n signed numbers of 32 bits with one mark
abbrev numbers : ℕ → ℕ → List ℤ
numbers n k = replicate n (minus (mark32 k))

-- a coordinate has 16 bits
abbrev coordinate : ℕ → ℤ
coordinate k = minus (0x0101 * k)

-- projection or texture, by its three marks
abbrev marked_single : ℕ → ℕ → ℕ → Single
marked_single a b c = record { matrix = numbers 16 a; slot = numbers 16 b; level = mark64 c }

abbrev pub marked_transform : Transform
marked_transform =
    record {
      pair = record { position = numbers 16 1; vector = numbers 16 2; level = mark64 3 };
      projection = marked_single 4 5 6;
      texture = marked_single 7 8 9;
      mode = mark32 10;
      error = true;
    }

abbrev pub marked_geometry : Geometry
marked_geometry =
    record {
      given = mark32 11;
      attributes = mark32 12;
      colour = mark32 13;
      position = record { x = coordinate 14; y = coordinate 15; z = coordinate 16 };
      waiting = record {
        list = mark32 17;
        first = numbers 5 18;
        second = numbers 5 19;
        third = numbers 5 20;
        count = mark64 21;
      };
      used = record { vertices = mark64 22; polygons = mark64 23 };
      rooms = record { vertices = mark64 24; polygons = mark64 25 };
      overflow = true;
    }

abbrev pub marked_stacks : Stacks
marked_stacks = record { positions = numbers 512 26; vectors = numbers 512 27 }

abbrev pub marked_stream : Stream
marked_stream =
    record { queue = mark32 28; held = replicate 32 (mark32 29); count = mark64 30; dummy = true; port = 31 }

-- the engine, and a number behind it
abbrev pub marked : Marked
marked =
    record {
      engine = record {
        core = record {
          registers = record { transform = marked_transform; geometry = marked_geometry };
          stacks = marked_stacks;
        };
        stream = marked_stream;
      };
      after = mark32 32;
    }
