-- Demand 3 of the engine, from demand 3 over any engine; and that the list of "Equal ends" leaves nothing out.
use mathlib.Core.List.{List}
use mathlib.Core.Path.{◌≡◌, refl}
use Prim.Native.Nat.{ℕ}
use lib.IntN.{ℤ}
use Rattle.stream.specs.Command.{Command, Complete}
use Rattle.stream.specs.Call.{Machine}
use Rattle.stream.specs.Demand3.{Usable}
use Rattle.stream.proofs.CallLaws.{Keeping}
use Rattle.stream.proofs.Demands.{demand3}
use Rattle.state.specs.declared.Pair.{Pair}
use Rattle.state.specs.declared.Single.{Single}
use Rattle.state.specs.declared.Transform.{Transform}
use Rattle.state.specs.declared.Stacks.{Stacks}
use Rattle.state.specs.declared.Waiting.{Waiting}
use Rattle.state.specs.declared.Counts.{Counts}
use Rattle.state.specs.declared.Geometry.{Geometry}
use Rattle.state.specs.declared.Core.{Core}
use Rattle.state.specs.declared.Engine.{Engine}
use Rattle.state.proofs.SoundLaws.{sound-parts}
use Rattle.state.specs.Sound.{sound_stream}
use Rattle.polygons.specs.Buffers.{Buffered, buffered}
use Rattle.execute.proofs.Keeps.{execute-kept, long-enough-kept}
use Rattle.execute.specs.Call.{exec, engine_rules, machine_of}
use Rattle.execute.proofs.Calls.{sound-core}
use Rattle.equivalence.specs.EqualEnds.{transform_of, stacks_of, geometry_of, waiting_of, EqualEnds}
use Rattle.equivalence.specs.Demand3.{Start, EngineDemand3Holds}

-- equal machines agree in every item
pub all_equal : (a b : Machine (Buffered Core)) → a ≡ b → EqualEnds a b
all_equal a b e = rw e (record {
  position_matrix = refl;
  vector_matrix = refl;
  projection_matrix = refl;
  texture_matrix = refl;
  position-slots = refl;
  vector-slots = refl;
  projection-slot = refl;
  texture-slot = refl;
  position-level = refl;
  projection-level = refl;
  texture-level = refl;
  mode = refl;
  error = refl;
  overflow = refl;
  colour = refl;
  given = refl;
  attributes = refl;
  position = refl;
  open_list = refl;
  waiting-count = refl;
  first-waiting = refl;
  second-waiting = refl;
  third-waiting = refl;
  used_vertices = refl;
  used_polygons = refl;
  vertices = refl;
  polygons = refl;
})

-- ---- the items are all there is

-- records whose fields are equal
same_pair : (a b : Pair) → a.position ≡ b.position → a.vector ≡ b.vector → a.level ≡ b.level → a ≡ b
same_pair a b e1 e2 e3 =
    let whole : Pair → Pair = λ x. record { position = x.position; vector = x.vector; level = x.level } in
    let h : whole a ≡ whole b = cc (e1, e2, e3) in
    h

same-single : (a b : Single) → a.matrix ≡ b.matrix → a.slot ≡ b.slot → a.level ≡ b.level → a ≡ b
same-single a b e1 e2 e3 =
    let whole : Single → Single = λ x. record { matrix = x.matrix; slot = x.slot; level = x.level } in
    let h : whole a ≡ whole b = cc (e1, e2, e3) in
    h

same-transform : (a b : Transform) → a.pair ≡ b.pair → a.projection ≡ b.projection → a.texture ≡ b.texture
    → a.mode ≡ b.mode → a.error ≡ b.error → a ≡ b
same-transform a b e1 e2 e3 e4 e5 =
    let whole : Transform → Transform = λ x. record {
      pair = x.pair;
      projection = x.projection;
      texture = x.texture;
      mode = x.mode;
      error = x.error;
    } in
    let h : whole a ≡ whole b = cc (e1, e2, e3, e4, e5) in
    h

same-stacks : (a b : Stacks) → a.positions ≡ b.positions → a.vectors ≡ b.vectors → a ≡ b
same-stacks a b e1 e2 =
    let whole : Stacks → Stacks = λ x. record { positions = x.positions; vectors = x.vectors } in
    let h : whole a ≡ whole b = cc (e1, e2) in
    h

same-waiting : (a b : Waiting) → a.list ≡ b.list → a.first ≡ b.first → a.second ≡ b.second → a.third ≡ b.third
    → a.count ≡ b.count → a ≡ b
same-waiting a b e1 e2 e3 e4 e5 =
    let whole : Waiting → Waiting = λ x. record {
      list = x.list;
      first = x.first;
      second = x.second;
      third = x.third;
      count = x.count;
    } in
    let h : whole a ≡ whole b = cc (e1, e2, e3, e4, e5) in
    h

same_counts : (a b : Counts) → a.vertices ≡ b.vertices → a.polygons ≡ b.polygons → a ≡ b
same_counts a b e1 e2 =
    let whole : Counts → Counts = λ x. record { vertices = x.vertices; polygons = x.polygons } in
    let h : whole a ≡ whole b = cc (e1, e2) in
    h

same-geometry : (a b : Geometry) → a.colour ≡ b.colour → a.given ≡ b.given → a.attributes ≡ b.attributes
    → a.position ≡ b.position → a.waiting ≡ b.waiting → a.used ≡ b.used → a.rooms ≡ b.rooms
    → a.overflow ≡ b.overflow → a ≡ b
same-geometry a b e1 e2 e3 e4 e5 e6 e7 e8 =
    let whole : Geometry → Geometry = λ x. record {
      colour = x.colour;
      given = x.given;
      attributes = x.attributes;
      position = x.position;
      waiting = x.waiting;
      used = x.used;
      rooms = x.rooms;
      overflow = x.overflow;
    } in
    let h : whole a ≡ whole b = cc (e1, e2, e3, e4, e5, e6, e7, e8) in
    h

-- engines with the same rooms that agree in every item are equal, and so are their buffers
pub all_listed : (a b : Machine (Buffered Core)) → (geometry_of a).rooms ≡ (geometry_of b).rooms → EqualEnds a b
    → a.state ≡ b.state
all_listed a b r e =
    let t : transform_of a ≡ transform_of b =
    same-transform (transform_of a) (transform_of b)
    (same_pair _ _ e.position_matrix e.vector_matrix e.position-level)
    (same-single _ _ e.projection_matrix e.projection-slot e.projection-level)
    (same-single _ _ e.texture_matrix e.texture-slot e.texture-level) e.mode e.error in
    let k : stacks_of a ≡ stacks_of b = same-stacks _ _ e.position-slots e.vector-slots in
    let w : waiting_of a ≡ waiting_of b =
    same-waiting _ _ e.open_list e.first-waiting e.second-waiting e.third-waiting e.waiting-count in
    let g : geometry_of a ≡ geometry_of b =
    same-geometry (geometry_of a) (geometry_of b) e.colour e.given e.attributes e.position w
    (same_counts _ _ e.used_vertices e.used_polygons) r e.overflow in
    let core : Machine (Buffered Core) → Core =
    λ m. record { registers = record { transform = transform_of m; geometry = geometry_of m }; stacks = stacks_of m } in
    let h : buffered (core a) a.state.vertices a.state.polygons
    ≡ buffered (core b) b.state.vertices b.state.polygons = cc (t, k, g, e.vertices, e.polygons) in h

-- ---- the claim

-- a command keeps the engine sound and the buffers long enough
pub keeps : (c : Command) (s : Buffered Core) → Complete c → Usable engine_rules s → Usable engine_rules (exec c s)
keeps c s w u =
    let k = execute-kept c.byte c.parameters s u.is-sound in
    record { is-sound = k.sound; is-long-enough = long-enough-kept s (exec c s) k u.is-long-enough }

-- numbers 1 and 2 do not fall at the start
pub start_usable : (e : Engine) (vertices : List ℤ) (polygons : List ℕ) → Start e vertices polygons
    → Keeping (Usable engine_rules) (machine_of e vertices polygons)
unfolding sound_stream
start_usable e vertices polygons s = (
  record { is-sound = sound-core e s.is-sound; is-long-enough = s.long-enough },
  (sound-parts e s.is-sound).stream,
)

pub engine-demand3 : EngineDemand3Holds
engine-demand3 capacity log e vertices polygons accepted s =
    let u = start_usable e vertices polygons s in
    let d = demand3 engine_rules keeps capacity log (machine_of e vertices polygons) accepted u.0 u.1
    s.none-pending in
    record {
      writes-taken = d.writes-taken;
      words-taken = d.words-taken;
      sides_agree = record {
        ends = all_equal _ _ d.equal_ends;
        none-after-writes = d.none-after-writes;
        none-after-words = d.none-after-words;
        right_length = d.right_length;
      };
      words_in_one_call = d.words_in_one_call;
    }
