-- Sound is document 01's word for a record that calls take: its numbers are in their ranges and its parts fit each
-- other ("Numbers a call can refuse with", Sound).
use Rattle.std.specs.Prelude.{Bool, true, false, ◌&&◌, ◌||◌, List, ℕ, leb, ltb, eqb, ℤ, pos, get_or, take}
use Rattle.std.specs.Int.Signed.{le_z, lt_z}
use Rattle.stream.specs.Pending.{Pending, commands_of, sound_pending}
use Rattle.state.specs.declared.OpenList.{OpenList}
use Rattle.state.specs.declared.OpenList.TheVariants.{Closed, Triangles, Quads, TriangleStrip, QuadStrip}
use Rattle.state.specs.declared.Transform.{Transform}
use Rattle.state.specs.declared.Waiting.{Waiting}
use Rattle.state.specs.declared.Geometry.{Geometry}
use Rattle.state.specs.declared.Core.{Core}
use Rattle.state.specs.declared.Stream.{Stream}
use Rattle.state.specs.declared.Engine.{Engine}
use Rattle.state.specs.List.{is_list, list_of}
use Rattle.state.specs.Fresh.{rooms_allowed}
use Rattle.state.specs.Sizes.{colours}

-- "every number in the range given here" (reading 14): modes 0 to 3, "level 0 or 1"; T-02: "the sound range of S 0 to
-- 63"
unfoldable pub sound_transform : Transform → Bool
sound_transform t =
    leb t.mode 3
    && leb t.pair.level 63
    && leb t.projection.level 1
    && leb t.texture.level 1

-- no list is open
abbrev pub is_closed : OpenList → Bool
is_closed Closed = true
is_closed Triangles = false
is_closed Quads = false
is_closed (TriangleStrip odd) = false
is_closed QuadStrip = false

-- how many vertices make a polygon of the list; a closed list makes none
abbrev pub needed : OpenList → ℕ
needed Closed = 0
needed Triangles = 3
needed Quads = 4
needed (TriangleStrip odd) = 3
needed QuadStrip = 4

-- a vertex's last number is its colour; document 01: "20h keeps bits 0-14 as colour"
unfoldable pub coloured : List ℤ → Bool
coloured v = le_z (pos 0) (get_or v 4 (pos 0)) && lt_z (get_or v 4 (pos 0)) (pos colours)

-- "waiting vertices fewer than the open kind needs, none when closed"
abbrev pub few_wait : OpenList → ℕ → Bool
few_wait list n = is_closed list && eqb n 0 || ltb n (needed list)

-- and each that waits has a colour
unfoldable pub sound_waiting : Waiting → Bool
sound_waiting w =
    is_list w.list
    && few_wait (list_of w.list) w.count
    && (leb w.count 0 || coloured w.first)
    && (leb w.count 1 || coloured w.second)
    && (leb w.count 2 || coloured w.third)

-- the ranges of colour and rooms, and "used counts within rooms"
unfoldable pub sound_geometry : Geometry → Bool
sound_geometry g =
    ltb g.colour colours
    && sound_waiting g.waiting
    && rooms_allowed g.rooms.vertices g.rooms.polygons
    && leb g.used.vertices g.rooms.vertices
    && leb g.used.polygons g.rooms.polygons

unfoldable pub sound_core : Core → Bool
sound_core c = sound_transform c.registers.transform && sound_geometry c.registers.geometry

-- what is pending in a stream: the commands of the rest of its word (reading 16), and as many parameters as are held
-- (reading 15)
unfoldable pub pending_of : Stream → Pending
pending_of s =
    record { queue = commands_of s.queue; held = take s.count s.held; dummy = s.dummy; port = s.port }

unfoldable pub sound_stream : Stream → Bool
sound_stream s = sound_pending (pending_of s)

-- the whole list, and document 01's "Nothing more."
unfoldable pub sound : Engine → Bool
sound e = sound_core e.core && sound_stream e.stream
