-- The sizes that the record and the caller's buffers have: document 01, Vertices and polygons.
use Rattle.std.specs.Prelude.{ℕ}

-- how many numbers a vertex takes: "five numbers each (X, Y, Z, W, colour)"
abbrev pub vertex_width : ℕ
vertex_width = 5

-- "Rooms are chosen at start: 1 to 6,144 vertices,"
abbrev pub most_vertices : ℕ
most_vertices = 6144

-- "1 to 2,048 polygons."
abbrev pub most_polygons : ℕ
most_polygons = 2048

-- how many colours there are: "20h keeps bits 0-14 as colour."
abbrev pub colours : ℕ
colours = 32768
