-- How long each text of an engine is.
use mathlib.Core.Bool.{true, false}
use mathlib.Core.List.{List, [], ◌∷◌}
use mathlib.Core.Path.{◌≡◌}
use Prim.Native.Nat.{ℕ, ◌*◌, ◌≤◌}
use native.Mathlib.Omega.{arith}
use lib.IntN.{ℤ, pos}
use lib.ListN.{length, get_or, drop, length-append, length-drop}
use Rattle.stream.specs.Pending.{Pending, is_pending}
use Rattle.listing.specs.Text.{ascii}
use Rattle.listing.proofs.NumberLaws.{length-decimal, length-hex}
use Rattle.listing.proofs.LineLaws.{length-word_line, length-number_line}
use Rattle.listing.proofs.PutLaws.{put_rules}
use Rattle.registers.specs.Registers.{status_word}
use Rattle.state.specs.List.{list_of}
use Rattle.state.specs.declared.OpenList.{OpenList}
use Rattle.state.specs.declared.OpenList.TheVariants.{Closed, Triangles, Quads, TriangleStrip, QuadStrip}
use Rattle.state.specs.declared.Coordinates.{Coordinates}
use Rattle.state.specs.declared.Transform.{Transform}
use Rattle.state.specs.declared.Geometry.{Geometry}
use Rattle.readout.specs.Numbers.{signed_text, numbers_line}
use Rattle.readout.specs.Readout.{flag, levels_line, attributes_line, position_line, list_line, vertex_line}
use Rattle.readout.specs.Readout.{polygon_line, polygon_lines, transform_text, geometry_text, pending_line}
use Rattle.readout.proofs.NumberLaws.{length-signed, length-spaced_number, length-spaced, length-numbers_line}
use Rattle.readout.proofs.NumberLaws.{signed-written, length-pieces}

pub length-levels_line : (s p t : ℕ) → length (levels_line s p t) ≤ 40
unfolding levels_line
length-levels_line s p t =
    simp length-append (omega (arith, length-decimal s, length-decimal p, length-number_line (ascii " ") t))

pub length-attributes_line : (a b : ℕ) → length (attributes_line a b) ≡ 29
unfolding attributes_line
length-attributes_line a b = simp length-append (omega (arith, length-hex a, length-word_line b))

pub length-position_line : (p : Coordinates) → length (position_line p) ≤ 45
unfolding position_line
length-position_line p = length-numbers_line (ascii "position") (p.x ∷ p.y ∷ p.z ∷ [])

pub length-list_line : (l : OpenList) → length (list_line l) ≤ 25
unfolding list_line
length-list_line Closed = omega arith
length-list_line Triangles = omega arith
length-list_line Quads = omega arith
length-list_line (TriangleStrip true) = omega arith
length-list_line (TriangleStrip false) = omega arith
length-list_line QuadStrip = omega arith

pub length-transform_text : (t : Transform) → length (transform_text t) ≤ 72
unfolding transform_text
length-transform_text t =
    simp length-append
    (omega (
      arith,
      length-word_line (status_word t),
      length-number_line (ascii "mode ") t.mode,
      length-levels_line t.pair.level t.projection.level t.texture.level,
    ))

pub length-geometry_text : (g : Geometry) → length (geometry_text g) ≤ 137
unfolding geometry_text
length-geometry_text g =
    simp length-append
    (omega (
      arith,
      length-number_line (ascii "overflow ") (flag g.overflow),
      length-number_line (ascii "colour ") g.colour,
      length-attributes_line g.given g.attributes,
      length-position_line g.position,
      length-list_line (list_of g.waiting.list),
    ))

pub length-pending_line : (p : Pending) → length (pending_line p) ≤ 19
unfolding pending_line
length-pending_line p = length-number_line (ascii "pending ") (flag (is_pending p))

-- a vertex of five numbers
pub length-vertex_line : (v : List ℤ) → length v ≡ 5 → length (vertex_line v) ≤ 60
unfolding vertex_line
length-vertex_line v h =
    omega (
      arith,
      length-append (signed_text (get_or v 0 (pos 0))) (numbers_line [] (drop 1 v)),
      length-signed (get_or v 0 (pos 0)),
      length-numbers_line [] (drop 1 v),
      length-drop 1 v,
    )

pub length-polygon_line : (p : List ℕ) → length (polygon_line p) ≤ 31
unfolding polygon_line
length-polygon_line p =
    simp length-append
    (omega (arith, length-decimal (get_or p 0 0), length-decimal (get_or p 1 0), length-word_line (get_or p 2 0)))

pub length-polygon_lines : (ps : List (List ℕ)) → length (polygon_lines ps) ≤ 31 * length ps
length-polygon_lines ps = length-pieces polygon_line 31 length-polygon_line ps

pub ruleset text_rules = (
  put_rules,
  signed-written,
  length-signed,
  length-spaced_number,
  length-spaced,
  length-numbers_line,
  length-levels_line,
  length-attributes_line,
  length-position_line,
  length-list_line,
  length-transform_text,
  length-geometry_text,
  length-pending_line,
  length-vertex_line,
  length-polygon_line,
  length-polygon_lines,
)
