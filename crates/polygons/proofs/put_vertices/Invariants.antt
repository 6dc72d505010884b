use mathlib.Core.Path.{◌≡◌}
use Prim.Native.Nat.{◌+◌}
use lib.ListN.{drop}
use Rattle.polygons.specs.Buffers.{with_vertices}
use Rattle.polygons.proofs.put_vertices.Given as goal

-- those from record i on, put into what is there, are all
abbrev pub invariant-loop-i : goal.invariant-loop-i
invariant-loop-i g l =
    with_vertices l.vertices (l.n + l.i) (drop l.i l.v-items) ≡ with_vertices l.initial.vertices l.n l.v-items
