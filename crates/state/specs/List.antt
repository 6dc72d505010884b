-- The open list by its number, as the record has it: an exported function takes no enum.
use Rattle.std.specs.Prelude.{Bool, true, false, List, [], ◌∷◌, ℕ, ltb, ℤ, length, get_or, take}
use Rattle.state.specs.declared.OpenList.{OpenList}
use Rattle.state.specs.declared.OpenList.TheVariants.{Closed, Triangles, Quads, TriangleStrip, QuadStrip}
use Rattle.state.specs.declared.Waiting.{Waiting}

-- every list, in the order of its number, from 0 on
abbrev pub lists : List OpenList
lists = Closed ∷ Triangles ∷ Quads ∷ TriangleStrip false ∷ TriangleStrip true ∷ QuadStrip ∷ []

-- the number stands for a list
abbrev pub is_list : ℕ → Bool
is_list n = ltb n (length lists)

-- the list of a number; a number that stands for none reads as closed, and no call gets so far
unfoldable pub list_of : ℕ → OpenList
list_of n = get_or lists n Closed

-- the number of a list
abbrev pub number_of : OpenList → ℕ
number_of Closed = 0
number_of Triangles = 1
number_of Quads = 2
number_of (TriangleStrip false) = 3
number_of (TriangleStrip true) = 4
number_of QuadStrip = 5

-- ---- what document 01 tells of the open list and what waits (Vertices and polygons)

-- the list as a 40h opens it: a triangle strip's next k is even
abbrev pub as_opened : OpenList → OpenList
as_opened Closed = Closed
as_opened Triangles = Triangles
as_opened Quads = Quads
as_opened (TriangleStrip odd) = TriangleStrip false
as_opened QuadStrip = QuadStrip

-- "the open list's kind, or that none is open"
abbrev pub kind_in : ℕ → OpenList
kind_in n = as_opened (list_of n)

-- a triangle strip's next k is odd; false, which is even, for every other list
abbrev pub keeps_odd : OpenList → Bool
keeps_odd Closed = false
keeps_odd Triangles = false
keeps_odd Quads = false
keeps_odd (TriangleStrip odd) = odd
keeps_odd QuadStrip = false

-- "With the open list the engine keeps whether a triangle strip's next k is odd; for every other kind, and when closed,
-- this reads even." It reads even too for a number that stands for no list
abbrev pub next_odd : ℕ → Bool
next_odd n = keeps_odd (list_of n)

-- the vertices that wait for the next polygon, in order
abbrev pub waiting_vertices : Waiting → List (List ℤ)
waiting_vertices w = take w.count (w.first ∷ w.second ∷ w.third ∷ [])
