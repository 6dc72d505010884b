-- One command on the core and the caller's two buffers.
use Rattle.std.specs.Prelude.{Bool, List, ℕ, length, get_or}
use Rattle.state.specs.declared.Registers.{Registers}
use Rattle.state.specs.declared.Core.{Core}
use Rattle.state.specs.With.{with_transform, with_geometry, with_registers}
use Rattle.state.specs.Clip.{clip_of}
use Rattle.stacks.specs.declared.Matrices.{Matrices}
use Rattle.stacks.specs.Stack.{run_stack}
use Rattle.transforms.specs.Command.{run_matrix}
use Rattle.polygons.specs.Buffers.{Buffered, beside, long_enough}
use Rattle.geometry.specs.Command.{run_geometry}
use Rattle.execute.specs.declared.RegisterCommand.{RegisterCommand}
use Rattle.execute.specs.declared.RegisterCommand.TheVariants.{Matrix, Geometry, Carried, NoCommand}
use Rattle.execute.specs.declared.Operation.{Operation}
use Rattle.execute.specs.declared.Operation.TheVariants.{Stack, Register}
use Rattle.execute.specs.Operation.{operation_of}

-- the buffers beside a core are long enough: number 2 does not fall
abbrev pub buffers_long : Buffered Core → Bool
buffers_long s = long_enough s.part.registers.geometry.rooms (length s.vertices) (length s.polygons)

-- ---- commands that use no stack, with their parameters p

unfoldable pub run_registers : RegisterCommand → List ℕ → Buffered Registers → Buffered Registers
run_registers (Matrix k) p s = beside s (with_transform s.part (run_matrix k p s.part.transform))
run_registers (Geometry k) p s =
    let r : Registers = s.part in
    let e = run_geometry k (get_or p 0 0) (get_or p 1 0) (clip_of r.transform) (beside s r.geometry) in
    beside e (with_geometry r e.part)
-- "only carried: commands 21h, 22h, 2Ah, 2Bh, 30h to 34h, 60h and 70h to 72h take their parameters and change nothing
-- else"
run_registers Carried p s = s
-- "Any other byte counts as 0, no command" (reading 4)
run_registers NoCommand p s = s

-- ---- every command

-- the core's matrices with its stacks
abbrev pub matrices_of : Core → Matrices
matrices_of c = record { transform = c.registers.transform; stacks = c.stacks }

abbrev pub with_matrices : Core → Matrices → Core
with_matrices c m = record { registers = with_transform c.registers m.transform; stacks = m.stacks }

unfoldable pub run_operation : Operation → List ℕ → Buffered Core → Buffered Core
run_operation (Stack k) p s =
    beside s (with_matrices s.part (run_stack k (get_or p 0 0) (matrices_of s.part)))
run_operation (Register k) p s =
    let e = run_registers k p (beside s s.part.registers) in
    beside e (with_registers s.part e.part)

unfoldable pub execute : ℕ → List ℕ → Buffered Core → Buffered Core
execute byte p s = run_operation (operation_of byte) p s
