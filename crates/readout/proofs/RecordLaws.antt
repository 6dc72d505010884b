-- Vertices stored one behind the other are a buffer's chunks.
use mathlib.Core.List.{List, [], ◌∷◌, ◌++◌, append_assoc}
use mathlib.Core.Path.{◌≡◌, sym, ap, ◌∙◌}
use Prim.Native.Nat.{◌*◌}
use native.Mathlib.Omega.{arith}
use lib.IntN.{ℤ}
use lib.ListN.{length, take, length-append}
use lib.Seq.{take_at, drop_at, take_all}
use Rattle.words.proofs.Over.{sets-append, sets_over, over-all}
use Rattle.state.specs.Sizes.{vertex_width}
use Rattle.polygons.specs.Buffers.{with_vertex, with_vertices}
use Rattle.readout.specs.Numbers.{chunks}

-- three of them
pub three-are : (a b c old : List ℤ) → length a ≡ vertex_width → length b ≡ vertex_width → length c ≡ vertex_width
    → length old ≡ 3 * vertex_width
    → chunks vertex_width 3 (with_vertices old 0 (a ∷ b ∷ c ∷ [])) ≡ a ∷ b ∷ c ∷ []
unfolding with_vertex
three-are a b c old la lb lc h =
    let two : length (a ++ b) ≡ 2 * vertex_width = omega (arith, length-append a b) in
    let three : length (a ++ b ++ c) ≡ 3 * vertex_width = omega (arith, length-append (a ++ b) c) in
    let first = rw la at (sets-append old 0 a b) in
    let all = rw (two, first) at (sets-append old 0 (a ++ b) c) in
    let laid = sym all ∙ sets_over old (a ++ b ++ c) (omega arith) ∙ over-all (a ++ b ++ c) old (three ∙ sym h) in
    let last : take vertex_width c ≡ c = take_all vertex_width c (omega arith) in
    ap (chunks vertex_width 3) (laid ∙ append_assoc a b c)
    ∙ rw (
      take_at a (b ++ c) vertex_width la,
      drop_at a (b ++ c) vertex_width la,
      take_at b c vertex_width lb,
      drop_at b c vertex_width lb,
      last,
    )
