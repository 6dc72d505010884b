-- The text of an engine and the caller's two buffers, as the program `replay` prints it: one item a line, its name
-- first; numbers in decimal, words as eight hex digits (reading 31).
use Rattle.std.specs.Prelude.{Bool, cond, List, [], ◌∷◌, ◌++◌, ℕ, ℤ, pos, get_or, drop}
use Rattle.listing.specs.Text.{ascii, decimal, hex8, word_line, lines_of, number_line}
use Rattle.stream.specs.Pending.{Pending, is_pending}
use Rattle.stream.specs.Call.{Machine}
use Rattle.state.specs.List.{list_of, waiting_vertices}
use Rattle.state.specs.declared.OpenList.{OpenList}
use Rattle.state.specs.declared.OpenList.TheVariants.{Closed, Triangles, Quads, TriangleStrip, QuadStrip}
use Rattle.state.specs.declared.Coordinates.{Coordinates}
use Rattle.state.specs.declared.Transform.{Transform}
use Rattle.state.specs.declared.Waiting.{Waiting}
use Rattle.state.specs.declared.Geometry.{Geometry}
use Rattle.state.specs.declared.Registers.{Registers}
use Rattle.state.specs.declared.Core.{Core}
use Rattle.state.specs.Sizes.{vertex_width}
use Rattle.state.specs.Clip.{clip_of}
use Rattle.polygons.specs.Buffers.{Buffered, polygon_width}
use Rattle.registers.specs.Registers.{status_word}
use Rattle.readout.specs.Numbers.{signed_text, numbers_line, chunks}

-- a flag: 1 where it is set
abbrev pub flag : Bool → ℕ
flag b = cond b 1 0

-- position and vector level as it is (reading 39), projection level, texture level
unfoldable pub levels_line : ℕ → ℕ → ℕ → List ℕ
levels_line s p t = ascii "levels " ++ decimal s ++ ascii " " ++ decimal p ++ number_line (ascii " ") t

-- the attributes last given by 29h, and those in force
unfoldable pub attributes_line : ℕ → ℕ → List ℕ
attributes_line given force = ascii "attributes " ++ hex8 given ++ ascii " " ++ word_line force

unfoldable pub position_line : Coordinates → List ℕ
position_line p = numbers_line (ascii "position") (p.x ∷ p.y ∷ p.z ∷ [])

-- the list that 40h opened; of a triangle strip whether its next k is even or odd
unfoldable pub list_line : OpenList → List ℕ
list_line Closed = ascii "list closed\n"
list_line Triangles = ascii "list triangles\n"
list_line Quads = ascii "list quads\n"
list_line (TriangleStrip odd) = cond odd (ascii "list triangle-strip odd\n") (ascii "list triangle-strip even\n")
list_line QuadStrip = ascii "list quad-strip\n"

-- the status word, the mode, the levels
unfoldable pub transform_text : Transform → List ℕ
transform_text t =
    ascii "status " ++ word_line (status_word t)
    ++ number_line (ascii "mode ") t.mode
    ++ levels_line t.pair.level t.projection.level t.texture.level

-- the overflow flag, the colour, the attributes, the position, the open list
unfoldable pub geometry_text : Geometry → List ℕ
geometry_text g =
    number_line (ascii "overflow ") (flag g.overflow)
    ++ number_line (ascii "colour ") g.colour
    ++ attributes_line g.given g.attributes
    ++ position_line g.position
    ++ list_line (list_of g.waiting.list)

-- 1 while a command is pending
unfoldable pub pending_line : Pending → List ℕ
pending_line p = number_line (ascii "pending ") (flag (is_pending p))

-- the four matrices, and the clip matrix
unfoldable pub matrices_text : Transform → List ℕ
matrices_text t =
    numbers_line (ascii "projection") t.projection.matrix
    ++ numbers_line (ascii "position-matrix") t.pair.position
    ++ numbers_line (ascii "vector") t.pair.vector
    ++ numbers_line (ascii "texture") t.texture.matrix
    ++ numbers_line (ascii "clip") (clip_of t)

-- X, Y, Z, W and colour of a vertex
unfoldable pub vertex_line : List ℤ → List ℕ
vertex_line v = signed_text (get_or v 0 (pos 0)) ++ numbers_line [] (drop 1 v)

abbrev pub vertex_lines : List (List ℤ) → List ℕ
vertex_lines = lines_of vertex_line

unfoldable pub waiting_text : Waiting → List ℕ
waiting_text w = number_line (ascii "waiting ") w.count ++ vertex_lines (waiting_vertices w)

-- the first n vertices of the caller's buffer
unfoldable pub vertices_text : ℕ → List ℤ → List ℕ
vertices_text n buffer = number_line (ascii "vertices ") n ++ vertex_lines (chunks vertex_width n buffer)

-- first vertex, count and attributes of a polygon
unfoldable pub polygon_line : List ℕ → List ℕ
polygon_line p =
    decimal (get_or p 0 0) ++ ascii " " ++ decimal (get_or p 1 0) ++ ascii " " ++ word_line (get_or p 2 0)

abbrev pub polygon_lines : List (List ℕ) → List ℕ
polygon_lines = lines_of polygon_line

-- the first n polygons of the caller's buffer
unfoldable pub polygons_text : ℕ → List ℕ → List ℕ
polygons_text n buffer = number_line (ascii "polygons ") n ++ polygon_lines (chunks polygon_width n buffer)

-- the registers, and whether a command is pending
unfoldable pub registers_text : Registers → Pending → List ℕ
registers_text r p = transform_text r.transform ++ geometry_text r.geometry ++ pending_line p ++ matrices_text
    r.transform

-- the vertices that wait, then what the caller's buffers hold, as much as is used
unfoldable pub lists_text : Geometry → List ℤ → List ℕ → List ℕ
lists_text g vertices polygons =
    waiting_text g.waiting ++ vertices_text g.used.vertices vertices ++ polygons_text g.used.polygons polygons

-- all of it
unfoldable pub machine_text : Machine (Buffered Core) → List ℕ
machine_text m =
    let r : Registers = m.state.part.registers in
    registers_text r m.pending ++ lists_text r.geometry m.state.vertices m.state.polygons
