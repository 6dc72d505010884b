-- A geometry command with the clip matrix at hand.
use mathlib.Core.List.{List}
use mathlib.Core.Path.{◌≡◌, ap, ◌∙◌}
use Prim.Native.Nat.{ℕ}
use lib.IntN.{ℤ}
use lib.ListN.{get_or}
use Rattle.std.specs.Prelude.{Option, Some, None, IfSome, MatchOption}
use Rattle.state.specs.declared.Geometry.{Geometry}
use Rattle.state.specs.declared.Registers.{Registers}
use Rattle.state.specs.With.{with_geometry}
use Rattle.state.specs.Clip.{clip_of}
use Rattle.polygons.specs.Buffers.{Buffered, buffered}
use Rattle.geometry.specs.declared.GeometryCommand.{GeometryCommand}
use Rattle.geometry.specs.Command.{run_geometry}
use Rattle.execute.specs.declared.RegisterCommand.TheVariants.{Geometry as Drawn}
use Rattle.execute.specs.Execute.{run_registers}

-- r is what is at hand, or else one of which P holds, which is m
pub at_hand : (o : Option (List ℤ)) (m r : List ℤ) {P : Type 0} → IfSome o (λ x. x ≡ m) → (P → r ≡ m)
    → MatchOption o P (λ x. r ≡ x) → r ≡ m
at_hand None m r known made h = made h
at_hand (Some x) m r known made h = h ∙ known

-- the command on the geometry part is the command on the registers
pub drawn : (k : GeometryCommand) (p : List ℕ) (r : Registers) (vertices : List ℤ) (polygons : List ℕ) (clip : List ℤ)
    (g : Geometry) (vs : List ℤ) (ps : List ℕ) → clip ≡ clip_of r.transform
    → buffered g vs ps ≡ run_geometry k (get_or p 0 0) (get_or p 1 0) clip (buffered r.geometry vertices polygons)
    → buffered (with_geometry r g) vs ps ≡ run_registers (Drawn k) p (buffered r vertices polygons)
unfolding run_registers
drawn k p r vertices polygons clip g vs ps is told =
    ap (λ (x : Buffered Geometry). buffered (with_geometry r x.part) x.vertices x.polygons)
    (told ∙ ap (λ (m : List ℤ). run_geometry k (get_or p 0 0) (get_or p 1 0) m (buffered r.geometry vertices polygons)) is)
