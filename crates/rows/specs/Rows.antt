-- Document 01, "Rows to check", those marked P, rows 4 to 6 as document 02, T-02, works them again: what the
-- definitions give, beside what the row says. One claim covers the table (proofs/Rows.antt), and each of its rows holds
-- by computing the definitions. A second list, with a claim of its own, shows readings of documents 01 and 02
-- (docs/DECISIONS.md).
use Rattle.std.specs.Prelude.{Bool, true, false, List, [], ◌∷◌, ◌++◌, map, ◌≡◌, ℕ, zero, suc, ◌*◌, ℤ, pos, negsuc, replicate, take}
use Rattle.std.specs.Prelude.{Some, None}
use Rattle.commands.specs.Commands.{lookup}
use Rattle.matrix.specs.Matrix.{unit, at}
use Rattle.stream.specs.Pending.{Pending, idle, queued, port_pending}
use Rattle.stream.specs.Command.{command}
use Rattle.stream.specs.Input.{most_words}
use Rattle.stream.specs.Output.{refusal, acceptance}
use Rattle.stream.specs.Pack.{pack}
use Rattle.stream.specs.Unpack.{unpack_from}
use Rattle.stream.specs.Call.{Machine, machine, reply, run}
use Rattle.stream.specs.Feed.{fed, place_of}
use Rattle.state.specs.declared.Single.{Single}
use Rattle.state.specs.declared.Transform.{Transform}
use Rattle.state.specs.declared.Geometry.{Geometry}
use Rattle.state.specs.declared.Core.{Core}
use Rattle.state.specs.With.{with_pair}
use Rattle.state.specs.Sizes.{vertex_width}
use Rattle.state.specs.Fresh.{zeros, fresh, start}
use Rattle.stacks.specs.declared.Matrices.{Matrices}
use Rattle.stacks.specs.declared.StackCommand.TheVariants.{Push, Pop, Store, Restore}
use Rattle.stacks.specs.Matrices.{put_transform, flagged}
use Rattle.stacks.specs.Slot.{slot_at}
use Rattle.stacks.specs.Stack.{level, target, run_stack}
use Rattle.transforms.specs.declared.MatrixCommand.TheVariants.{Mode}
use Rattle.transforms.specs.Command.{run_matrix}
use Rattle.polygons.specs.Buffers.{Buffered, buffered, polygon_width}
use Rattle.execute.specs.Call.{exec, word_reply, words_reply}

pub record WorkedRow : Type 1 where
  pub Kind : Type 0
  pub computed : Kind
  pub stated : Kind

abbrev gives : {A : Type 0} → A → A → WorkedRow
gives {A} computed stated = record { Kind = A; computed = computed; stated = stated }

-- each row gives what it says
abbrev pub GroupHolds : List WorkedRow → Type 0
GroupHolds [] = Unit {0}
GroupHolds (r ∷ rs) = (r.computed ≡ r.stated) × GroupHolds rs

-- so does each row of a table, which stands in groups
abbrev pub AllHold : List (List WorkedRow) → Type 0
AllHold [] = Unit {0}
AllHold (g ∷ gs) = GroupHolds g × AllHold gs

-- ---- engines

-- the fresh matrices in mode n
abbrev in_mode : ℕ → Matrices
in_mode n =
    let c : Core = fresh.core in
    record { transform = run_matrix Mode (n ∷ []) c.registers.transform; stacks = c.stacks }

-- holding these matrices of position and vector, and position level n
abbrev holding : List ℤ → List ℤ → ℕ → Matrices → Matrices
holding a b n m = put_transform m (with_pair m.transform (record { position = a; vector = b; level = n }))

-- in mode 1, with the unit matrix in slot 31 of both stacks
abbrev unit_in_slot31 : Matrices
unit_in_slot31 =
    record {
      transform = (in_mode 1).transform;
      stacks = record { positions = zeros 496 ++ unit; vectors = zeros 496 ++ unit };
    }

-- after n pushes
abbrev pushes : ℕ → Matrices → Matrices
pushes zero m = m
pushes (suc n) m = pushes n (run_stack Push 0 m)

-- the core of an engine with these rooms, and buffers for them in which each number is -1 or 9
abbrev start_with : ℕ → ℕ → Buffered Core
start_with vertices polygons =
    buffered (start vertices polygons).engine.core (replicate (vertex_width * vertices) (negsuc 0))
    (replicate (polygon_width * polygons) 9)

-- rooms 1 and 1, nothing pending
abbrev at_start : Machine (Buffered Core)
at_start = machine (start_with 1 1) idle

-- the same with a port command begun
abbrev at_port : Machine (Buffered Core)
at_port = machine (start_with 1 1) (port_pending 0x23 (7 ∷ []))

-- a lent list of vertices that is one number short
abbrev too_short : Buffered Core
too_short = buffered (start_with 1 1).part (replicate 4 (negsuc 0)) (start_with 1 1).polygons

-- parameters held without a command
abbrev not_sound : Pending
not_sound = queued [] (7 ∷ [])

-- commands one after another, each a byte and its parameters
abbrev runs : List (ℕ × List ℕ) → Buffered Core → Buffered Core
runs cs = run exec (map (λ (c : ℕ × List ℕ). command c.0 c.1) cs)

abbrev geometry_after : List (ℕ × List ℕ) → Buffered Core → Geometry
geometry_after cs s = (runs cs s).part.registers.geometry

-- 16h with this word first and fifteen zeros, then 1Bh, which scales X by the next: the corner of the current matrix
abbrev scaled : ℕ → ℕ → ℤ
scaled raw by =
    let cs : List (ℕ × List ℕ) = (0x16, raw ∷ replicate 15 0) ∷ (0x1b, by ∷ 0x1000 ∷ 0x1000 ∷ []) ∷ [] in
    at (runs cs (start_with 1 1)).part.registers.transform.projection.matrix 0

-- 23h with X = x, Y = Z = 0
abbrev vertex : ℕ → ℕ × List ℕ
vertex x = (0x23, x ∷ 0 ∷ [])

-- the projection matrix with its stack, and the error flag, after these words
abbrev projection_after : List ℕ → Single × Bool
projection_after ws =
    let t : Transform = (words_reply at_start ws).left.state.part.registers.transform in
    (t.projection, t.error)

-- the unit matrix translated by 1, 2 and 3
abbrev one_two_three : List ℤ
one_two_three = take 12 unit ++ pos 1 ∷ pos 2 ∷ pos 3 ∷ pos 4096 ∷ []

-- two triangles; the attributes are given before and after 40h, the colour before each of the first three vertices
abbrev two_triangles : List (ℕ × List ℕ)
two_triangles =
    (0x29, 77 ∷ []) ∷ (0x40, 0 ∷ []) ∷ (0x29, 88 ∷ []) ∷
    (0x20, 1 ∷ []) ∷ vertex 10 ∷ (0x20, 2 ∷ []) ∷ vertex 20 ∷ (0x20, 0x8003 ∷ []) ∷ vertex 30 ∷
    vertex 40 ∷ vertex 50 ∷ vertex 60 ∷ []

-- ---- the table, in document 01's order

abbrev pub command_table_rows : List WorkedRow
command_table_rows =
    -- 1: parameters of 34h 32; 73h, 9Fh and FFh unknown
    gives (map lookup (0x34 ∷ 0x73 ∷ 0x9f ∷ 0xff ∷ [])) (Some 32 ∷ None ∷ None ∷ None ∷ [])
    ∷ []

abbrev pub word_rows : List WorkedRow
word_rows =
    -- 2: word 00110015h refused 3; 00001099h refused 3; 99000010h taken as 10h alone
    gives (word_reply at_start 0x0011_0015) (reply 3 at_start)
    ∷ gives (word_reply at_start 0x0000_1099) (reply 3 at_start)
    ∷ gives (word_reply at_start 0x9900_0010) (reply 0 (machine (start_with 1 1) (queued (0x10 ∷ []) [])))
    ∷ []

abbrev pub matrix_rows : List WorkedRow
matrix_rows =
    -- 3: scale raw 1 by raw -1 gives -1; by 4095 gives 0; raw 7FFFFFFFh by 8192 gives -2; -1 is the word FFFFFFFFh
    gives (scaled 1 0xffff_ffff ∷ scaled 1 4095 ∷ scaled 0x7fff_ffff 8192 ∷ []) (negsuc 0 ∷ pos 0 ∷ negsuc 1 ∷ [])
    ∷ []

abbrev pub stack_rows : List WorkedRow
stack_rows =
    -- 4: position level 31, push: error, level 32; both matrices go to slot 31
    gives (level (pushes 31 (in_mode 1)) ∷ level (pushes 32 (in_mode 1)) ∷ []) (31 ∷ 32 ∷ [])
    ∷ gives ((pushes 31 (in_mode 1)).transform.error ∷ (pushes 32 (in_mode 1)).transform.error ∷ []) (false ∷ true ∷ [])
    ∷ gives (run_stack Push 0 (holding unit unit 31 (in_mode 1)))
    (flagged true (holding unit unit 32 unit_in_slot31))
    -- 5: fresh, mode 1, pop 1: error, level 63, slot 31 loaded
    ∷ gives (run_stack Pop 1 (in_mode 1)) (flagged true (holding (zeros 16) (zeros 16) 63 (in_mode 1)))
    ∷ gives (run_stack Pop 1 (holding (zeros 16) (zeros 16) 0 unit_in_slot31))
    (flagged true (holding unit unit 63 unit_in_slot31))
    -- pop 3Fh: level 1, position matrix all zero; the vector matrix is loaded too, and nothing else changes
    ∷ gives (run_stack Pop 0x3f (in_mode 1)) (holding (zeros 16) (zeros 16) 1 (in_mode 1))
    -- 6: store 30 fine, 31 error, in slot 31; so restore
    ∷ gives (slot_at (run_stack Store 30 (in_mode 1)).stacks.positions 30) unit
    ∷ gives (run_stack Store 30 (in_mode 1)).transform.error false
    ∷ gives (run_stack Store 31 (in_mode 1)) (flagged true unit_in_slot31)
    ∷ gives (run_stack Restore 31 (holding (zeros 16) (zeros 16) 0 unit_in_slot31)) (flagged true unit_in_slot31)
    ∷ []

abbrev pub geometry_rows : List WorkedRow
geometry_rows =
    -- 7: 28h adding 1 to X 32767 gives -32768
    gives (geometry_after (vertex 32767 ∷ (0x28, 1 ∷ []) ∷ []) (start_with 1 1)).position.x (negsuc 32767)
    -- 8: 24h with X field 200h gives -32768
    ∷ gives (geometry_after ((0x24, 0x200 ∷ []) ∷ []) (start_with 1 1)).position.x (negsuc 32767)
    -- 9: rooms 3 and 1: the second triangle is dropped, flag set
    ∷ gives (geometry_after two_triangles (start_with 3 1)).used (record { vertices = 3; polygons = 1 })
    ∷ gives (geometry_after two_triangles (start_with 3 1)).overflow true
    ∷ gives (runs two_triangles (start_with 3 1)).vertices
    (pos 10 ∷ pos 0 ∷ pos 0 ∷ pos 4096 ∷ pos 1 ∷
    pos 20 ∷ pos 0 ∷ pos 0 ∷ pos 4096 ∷ pos 2 ∷
    pos 30 ∷ pos 0 ∷ pos 0 ∷ pos 4096 ∷ pos 3 ∷ [])
    ∷ gives (runs two_triangles (start_with 3 1)).polygons (0 ∷ 3 ∷ 77 ∷ [])
    ∷ []

abbrev pub pack_rows : List WorkedRow
pack_rows =
    -- 10: log (04000440h, 2), (04000454h, 7) packs to 00001510h, 2, 0
    gives (pack most_words (0x0400_0440 ∷ 2 ∷ 0x0400_0454 ∷ 7 ∷ [])) (acceptance (0x1510 ∷ 2 ∷ 0 ∷ []))
    ∷ []

abbrev pub worked_rows : List (List WorkedRow)
worked_rows = command_table_rows ∷ word_rows ∷ matrix_rows ∷ stack_rows ∷ geometry_rows ∷ pack_rows ∷ []

-- ---- readings

abbrev pub pop_readings : List WorkedRow
pop_readings =
    -- reading 7: pop's N is the low six bits of its word as a signed number, -32 to 31; T = (S - N) mod 64 from S = 5,
    -- for N = 0, 5, 6, 31, -32 and -1, and for a word with bits above those six
    gives (map (target 5) (0 ∷ 5 ∷ 6 ∷ 31 ∷ 32 ∷ 0x3f ∷ 0xffff_ff40 ∷ [])) (5 ∷ 0 ∷ 63 ∷ 38 ∷ 37 ∷ 6 ∷ 5 ∷ [])
    -- a push of level 63 and a pop of -1 go to level 0
    ∷ gives (level (run_stack Push 0 (holding unit unit 63 (in_mode 1))) ∷ target 63 0x3f ∷ []) (0 ∷ 0 ∷ [])
    ∷ []

abbrev pub reader_readings : List WorkedRow
reader_readings =
    -- reading 26: the list reader's place only says where reading starts; the words before it are not looked at
    gives (unpack_from 1 2 (0x0011_0015 ∷ 0x10 ∷ 2 ∷ [])) (acceptance (0x0400_0440 ∷ 2 ∷ []))
    -- reading 26: a refusal's place counts from the first word, wherever reading starts
    ∷ gives (unpack_from 2 9 (0x10 ∷ 2 ∷ 0x23 ∷ 7 ∷ [])) (refusal 8 2)
    -- reading 26: a place at the end or past the words is the end, where nothing is unpacked
    ∷ gives (unpack_from 3 0 (0x0011_0015 ∷ 0x10 ∷ 2 ∷ [])) (acceptance [])
    ∷ gives (unpack_from 4 0 (0x0011_0015 ∷ 0x10 ∷ 2 ∷ [])) (acceptance [])
    ∷ []

abbrev pub list_readings : List WorkedRow
list_readings =
    -- reading 34: `0, 00110015h` is number 3, taken 1, and place 1; the words behind a refused one are not taken
    gives (words_reply at_start (0 ∷ 0x0011_0015 ∷ [])) (fed 1 3 at_start)
    ∷ gives (words_reply at_start (0 ∷ 0x0011_0015 ∷ 0 ∷ [])) (fed 1 3 at_start)
    ∷ gives (place_of 3 1) 1
    ∷ gives (words_reply at_start (0 ∷ 0x10 ∷ [])) (fed 2 0 (machine (start_with 1 1) (queued (0x10 ∷ []) [])))
    ∷ gives (place_of 0 2) 0
    -- reading 35: an empty list is taken with a command begun, where a word of 0 is refused with 4
    ∷ gives (words_reply at_port []) (fed 0 0 at_port)
    ∷ gives (words_reply at_port (0 ∷ [])) (fed 0 4 at_port)
    -- and refused with 2 and 1; 1 first
    ∷ gives (words_reply (machine too_short idle) []) (fed 0 2 (machine too_short idle))
    ∷ gives (words_reply (machine too_short not_sound) []) (fed 0 1 (machine too_short not_sound))
    ∷ []

abbrev pub single_readings : List WorkedRow
single_readings =
    -- reading 36: a push at 1 stores and leaves level 0; here the words 111C1110h, 0, 1, 2, 3, 0, which end with
    -- projection level 0 and the error
    gives (projection_after (0x111c_1110 ∷ 0 ∷ 1 ∷ 2 ∷ 3 ∷ 0 ∷ []))
    (record { matrix = one_two_three; slot = one_two_three; level = 0 }, true)
    -- a pop at 0 loads and leaves level 1; here of the fresh texture stack
    ∷ gives (run_stack Pop 1 (in_mode 3)).transform.texture (record { matrix = zeros 16; slot = zeros 16; level = 1 })
    ∷ gives (run_stack Pop 1 (in_mode 3)).transform.error true
    -- reading 37: store and restore with 31 are no error in modes 0 and 3
    ∷ gives (map (λ (n : ℕ). (run_stack Store 31 (in_mode n)).transform.error) (0 ∷ 3 ∷ [])) (false ∷ false ∷ [])
    ∷ gives (map (λ (n : ℕ). (run_stack Restore 31 (in_mode n)).transform.error) (0 ∷ 3 ∷ [])) (false ∷ false ∷ [])
    ∷ []

abbrev pub readings : List (List WorkedRow)
readings = pop_readings ∷ reader_readings ∷ list_readings ∷ single_readings ∷ []
