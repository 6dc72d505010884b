-- What each kind of command does to a core and the two buffers.
use mathlib.Core.List.{List}
use mathlib.Core.Path.{◌≡◌, refl, ap, ◌∙◌}
use Prim.Native.Nat.{ℕ, ◌%◌}
use lib.IntN.{ℤ}
use lib.ListN.{get_or}
use Rattle.state.specs.declared.Geometry.{Geometry}
use Rattle.state.specs.declared.Transform.{Transform}
use Rattle.state.specs.declared.Core.{Core}
use Rattle.state.specs.With.{with_transform, with_geometry, with_registers, with_colour}
use Rattle.state.specs.Clip.{clip_of}
use Rattle.state.specs.Sizes.{colours}
use Rattle.stacks.specs.declared.Matrices.{Matrices}
use Rattle.stacks.specs.declared.StackCommand.{StackCommand}
use Rattle.stacks.specs.Stack.{run_stack}
use Rattle.transforms.specs.declared.MatrixCommand.{MatrixCommand}
use Rattle.transforms.specs.Command.{run_matrix}
use Rattle.polygons.specs.Buffers.{Buffered, buffered}
use Rattle.geometry.specs.declared.GeometryCommand.{GeometryCommand}
use Rattle.geometry.specs.declared.GeometryCommand.TheVariants.{Colour, End}
use Rattle.geometry.specs.Command.{run_geometry}
use Rattle.execute.specs.declared.RegisterCommand.TheVariants.{Matrix, Carried, NoCommand}
use Rattle.execute.specs.declared.RegisterCommand.TheVariants.{Geometry as Drawn}
use Rattle.execute.specs.declared.Operation.TheVariants.{Stack, Register}
use Rattle.execute.specs.Execute.{matrices_of, with_matrices, run_operation, run_registers}

module _ (c : Core) (vs : List ℤ) (ps p : List ℕ) where
  abbrev all : Buffered Core
  all = buffered c vs ps

  -- the core with another geometry part
  abbrev with_part : Geometry → Core
  with_part g = with_registers c (with_geometry c.registers g)

  -- a stack command
  pub ran_stack : (k : StackCommand) (n : Matrices) → n ≡ run_stack k (get_or p 0 0) (matrices_of c)
      → buffered (with_matrices c n) vs ps ≡ run_operation (Stack k) p all
  unfolding run_operation
  ran_stack k n e = ap (λ (n : Matrices). buffered (with_matrices c n) vs ps) e

  -- a matrix command
  pub ran_matrix : (k : MatrixCommand) (t : Transform) → t ≡ run_matrix k p c.registers.transform
      → buffered (with_registers c (with_transform c.registers t)) vs ps ≡ run_operation (Register (Matrix k)) p all
  unfolding run_operation run_registers
  ran_matrix k t e = ap (λ (t : Transform). buffered (with_registers c (with_transform c.registers t)) vs ps) e

  -- 20h
  pub ran-colour : buffered (with_part (with_colour c.registers.geometry (get_or p 0 0 % colours))) vs ps
      ≡ run_operation (Register (Drawn Colour)) p all
  unfolding run_operation run_registers run_geometry
  ran-colour = refl

  -- 41h
  pub ran-end : all ≡ run_operation (Register (Drawn End)) p all
  unfolding run_operation run_registers run_geometry
  ran-end = refl

  -- a geometry command
  pub ran-geometry : (k : GeometryCommand) (clip : List ℤ) (h : Geometry) (vs' : List ℤ) (ps' : List ℕ)
      → clip ≡ clip_of c.registers.transform
      → buffered h vs' ps' ≡ run_geometry k (get_or p 0 0) (get_or p 1 0) clip (buffered c.registers.geometry vs ps)
      → buffered (with_part h) vs' ps' ≡ run_operation (Register (Drawn k)) p all
  unfolding run_operation run_registers
  ran-geometry k clip h vs' ps' is told =
      ap (λ (x : Buffered Geometry). buffered (with_part x.part) x.vertices x.polygons)
      (told ∙ ap (λ (n : List ℤ). run_geometry k (get_or p 0 0) (get_or p 1 0) n (buffered c.registers.geometry vs ps)) is)

  -- the commands that are only carried, and bytes that are no command
  pub ran-carried : all ≡ run_operation (Register Carried) p all
  unfolding run_operation run_registers
  ran-carried = refl

  pub ran-none : all ≡ run_operation (Register NoCommand) p all
  unfolding run_operation run_registers
  ran-none = refl
