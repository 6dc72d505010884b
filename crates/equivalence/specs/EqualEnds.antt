-- Where the two sides of demand 3 have to agree: document 01, "The two sides of demand 3".
use Rattle.std.specs.Prelude.{false, List, ◌≡◌, ℕ}
use Rattle.stream.specs.Pending.{is_pending}
use Rattle.stream.specs.Read.{writes}
use Rattle.stream.specs.Pack.{packed_length}
use Rattle.stream.specs.Call.{Machine}
use Rattle.state.specs.declared.Transform.{Transform}
use Rattle.state.specs.declared.Stacks.{Stacks}
use Rattle.state.specs.declared.Waiting.{Waiting}
use Rattle.state.specs.declared.Geometry.{Geometry}
use Rattle.state.specs.declared.Core.{Core}
use Rattle.polygons.specs.Buffers.{Buffered}

abbrev pub transform_of : Machine (Buffered Core) → Transform
transform_of m = m.state.part.registers.transform

abbrev pub stacks_of : Machine (Buffered Core) → Stacks
stacks_of m = m.state.part.stacks

abbrev pub geometry_of : Machine (Buffered Core) → Geometry
geometry_of m = m.state.part.registers.geometry

abbrev pub waiting_of : Machine (Buffered Core) → Waiting
waiting_of m = (geometry_of m).waiting

-- "Equal ends means that the two sides agree in all of these:"
pub record EqualEnds (a b : Machine (Buffered Core)) : Type 0 where
  -- "every entry of the four matrices;"
  pub position_matrix : (transform_of a).pair.position ≡ (transform_of b).pair.position
  pub vector_matrix : (transform_of a).pair.vector ≡ (transform_of b).pair.vector
  pub projection_matrix : (transform_of a).projection.matrix ≡ (transform_of b).projection.matrix
  pub texture_matrix : (transform_of a).texture.matrix ≡ (transform_of b).texture.matrix
  -- "every slot of every stack;"
  pub position-slots : (stacks_of a).positions ≡ (stacks_of b).positions
  pub vector-slots : (stacks_of a).vectors ≡ (stacks_of b).vectors
  pub projection-slot : (transform_of a).projection.slot ≡ (transform_of b).projection.slot
  pub texture-slot : (transform_of a).texture.slot ≡ (transform_of b).texture.slot
  -- "the three levels;"
  pub position-level : (transform_of a).pair.level ≡ (transform_of b).pair.level
  pub projection-level : (transform_of a).projection.level ≡ (transform_of b).projection.level
  pub texture-level : (transform_of a).texture.level ≡ (transform_of b).texture.level
  -- "the mode;"
  pub mode : (transform_of a).mode ≡ (transform_of b).mode
  -- "error and overflow flag;"
  pub error : (transform_of a).error ≡ (transform_of b).error
  pub overflow : (geometry_of a).overflow ≡ (geometry_of b).overflow
  -- "the colour;"
  pub colour : (geometry_of a).colour ≡ (geometry_of b).colour
  -- "the attributes last given by 29h and those in force;"
  pub given : (geometry_of a).given ≡ (geometry_of b).given
  pub attributes : (geometry_of a).attributes ≡ (geometry_of b).attributes
  -- "the position;"
  pub position : (geometry_of a).position ≡ (geometry_of b).position
  -- "the open list's kind, or that none is open, and whether its next k is odd;" the list's number stands for both
  -- (state/specs/List.antt: kind_in, next_odd)
  pub open_list : (waiting_of a).list ≡ (waiting_of b).list
  -- "how many vertices wait, and each of them in order;"
  pub waiting-count : (waiting_of a).count ≡ (waiting_of b).count
  pub first-waiting : (waiting_of a).first ≡ (waiting_of b).first
  pub second-waiting : (waiting_of a).second ≡ (waiting_of b).second
  pub third-waiting : (waiting_of a).third ≡ (waiting_of b).third
  -- "both used counts;"
  pub used_vertices : (geometry_of a).used.vertices ≡ (geometry_of b).used.vertices
  pub used_polygons : (geometry_of a).used.polygons ≡ (geometry_of b).used.polygons
  -- "every number of both lent lists, also past the counts."
  pub vertices : a.state.vertices ≡ b.state.vertices
  pub polygons : a.state.polygons ≡ b.state.polygons

-- "the two ends are equal with no command begun, and the packed length is the one computed from the log": a after the
-- port writes, b after the packed words, n of them
pub record SidesAgree (log : List ℕ) (n : ℕ) (a b : Machine (Buffered Core)) : Type 0 where
  pub ends : EqualEnds a b
  pub none-after-writes : is_pending a.pending ≡ false
  pub none-after-words : is_pending b.pending ≡ false
  pub right_length : n ≡ packed_length (writes log)
