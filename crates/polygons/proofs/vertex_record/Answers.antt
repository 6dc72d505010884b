use Rattle.std.proofs.Common.{rules, ◌≡◌, ℕ, List, [], ◌∷◌, get_or, refl}
use lib.IntN.{ℤ, pos}
use Rattle.matrix.specs.Matrix.{clip_vertex, row_by}
use Rattle.state.specs.declared.Coordinates.{Coordinates}
use Rattle.polygons.specs.Records.{vertex_record}
use Rattle.polygons.proofs.vertex_record.Goals as goal

-- the four numbers of the clip vertex r, and the colour
five_numbers : (p : Coordinates) (colour : ℕ) (clip r : List ℤ) (x y z w last : ℤ) → r ≡ clip_vertex p.x p.y p.z clip
    → x ≡ get_or r 0 (pos 0) → y ≡ get_or r 1 (pos 0) → z ≡ get_or r 2 (pos 0) → w ≡ get_or r 3 (pos 0)
    → last ≡ pos colour → x ∷ y ∷ z ∷ w ∷ last ∷ [] ≡ vertex_record p colour clip
unfolding vertex_record row_by
five_numbers p colour clip r x y z w last is at0 at1 at2 at3 at4 = rw (at0, at1, at2, at3, at4, is) refl

pub returns : goal.returns
returns c =
    five_numbers c.args.p c.args.colour c.args.clip.now c.clip_vertex.result _ _ _ _ _
    (search rules) (search rules) (search rules) (search rules) (search rules) (search rules)
