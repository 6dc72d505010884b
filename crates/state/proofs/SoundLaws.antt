-- Laws of soundness: the ranges of the transform part, the parts of a sound record, and that a start gives a sound one.
use mathlib.Core.Bool.{Bool, true, false, cond, and-eq-true_iff}
use mathlib.Core.Path.{◌≡◌, refl, ap, ◌∙◌}
use Prim.Native.Nat.{ℕ, ◌≤◌}
use native.Mathlib.Omega.{arith}
use lib.Dec.{eqb}
use borrow.Author.Tests.{leb-true, le-leb}
use Rattle.commands.specs.Commands.{command_rows, lookup, known, counted, command_bytes}
use Rattle.stream.specs.Pending.{is_pending, commands_of, sound_pending}
use Rattle.state.specs.declared.Pair.{Pair}
use Rattle.state.specs.declared.Single.{Single}
use Rattle.state.specs.declared.Transform.{Transform}
use Rattle.state.specs.declared.Stream.{Stream}
use Rattle.state.specs.declared.Core.{Core}
use Rattle.state.specs.declared.Engine.{Engine}
use Rattle.state.specs.declared.Answer.{Answer}
use Rattle.state.specs.With.{with_pair, with_projection, with_texture, with_error, with_core, with_rooms, answered}
use Rattle.state.specs.List.{list_of}
use Rattle.state.specs.Mode.{single, with_single}
use Rattle.state.specs.Fresh.{fresh_transform, fresh_geometry, fresh_stream, fresh, rooms_allowed, start}
use Rattle.state.specs.Sound.{sound_transform, sound_waiting, sound_geometry, sound_core, pending_of, sound_stream}
use Rattle.state.specs.Sound.{sound}

-- what holds in each case holds of the choice
pub cond_case : {A : Type 0} (P : A → Type 0) (b : Bool) (x y : A) → (b ≡ true → P x) → (b ≡ false → P y)
    → P (cond b x y)
cond_case P true x y f g = f refl
cond_case P false x y f g = g refl

-- ---- the transform part

pub record Ranges (t : Transform) : Type 0 where
  pub mode : t.mode ≤ 3
  pub level : t.pair.level ≤ 63
  pub projection : t.projection.level ≤ 1
  pub texture : t.texture.level ≤ 1

pub ranges : (t : Transform) → sound_transform t ≡ true → Ranges t
unfolding sound_transform
ranges t e =
    let abc = (and-eq-true_iff _ _).0 e in
    let ab = (and-eq-true_iff _ _).0 abc.0 in
    let a = (and-eq-true_iff _ _).0 ab.0 in
    record {
      mode = leb-true _ _ a.0;
      level = leb-true _ _ a.1;
      projection = leb-true _ _ ab.1;
      texture = leb-true _ _ abc.1;
    }

pub in_ranges : (t : Transform) → Ranges t → sound_transform t ≡ true
unfolding sound_transform
in_ranges t r =
    simp (le-leb _ _ r.mode, le-leb _ _ r.level, le-leb _ _ r.projection, le-leb _ _ r.texture)

-- a part of it is replaced by one in its range
module _ (t : Transform) (r : Ranges t) where
  pub error_in : (b : Bool) → Ranges (with_error t b)
  error_in b = record { mode = r.mode; level = r.level; projection = r.projection; texture = r.texture }

  pub pair_in : (p : Pair) → p.level ≤ 63 → Ranges (with_pair t p)
  pair_in p h = record { mode = r.mode; level = h; projection = r.projection; texture = r.texture }

  pub single_in : (s : Single) → s.level ≤ 1 → Ranges (with_single t s)
  single_in s h =
      cond_case Ranges (eqb t.mode 3) (with_texture t s) (with_projection t s)
      (λ e. record { mode = r.mode; level = r.level; projection = r.projection; texture = h })
      (λ e. record { mode = r.mode; level = r.level; projection = h; texture = r.texture })

  pub single-level : (single t).level ≤ 1
  single-level =
      cond_case (λ (s : Single). s.level ≤ 1) (eqb t.mode 3) t.texture t.projection (λ e. r.texture)
      (λ e. r.projection)

-- ---- the parts of a sound record

pub record SoundParts (e : Engine) : Type 0 where
  pub transform : sound_transform e.core.registers.transform ≡ true
  pub geometry : sound_geometry e.core.registers.geometry ≡ true
  pub stream : sound_stream e.stream ≡ true

pub core-parts : (c : Core) → sound_core c ≡ true
    → (sound_transform c.registers.transform ≡ true) × (sound_geometry c.registers.geometry ≡ true)
unfolding sound_core
core-parts c h =
    (and-eq-true_iff (sound_transform c.registers.transform) (sound_geometry c.registers.geometry)).0 h

pub parts-core : (c : Core) → sound_transform c.registers.transform ≡ true
    → sound_geometry c.registers.geometry ≡ true → sound_core c ≡ true
unfolding sound_core
parts-core c t g = simp (t, g)

pub sound-parts : (e : Engine) → sound e ≡ true → SoundParts e
unfolding sound
sound-parts e h =
    let both = (and-eq-true_iff (sound_core e.core) (sound_stream e.stream)).0 h in
    let core = core-parts e.core both.0 in
    record { transform = core.0; geometry = core.1; stream = both.1 }

pub parts-sound : (e : Engine) → SoundParts e → sound e ≡ true
unfolding sound
parts-sound e p = simp (parts-core e.core p.transform p.geometry, p.stream)

-- a sound core is put in
pub core-kept : (e : Engine) (c : Core) → sound e ≡ true → sound_core c ≡ true → sound (with_core e c) ≡ true
core-kept e c h k =
    let parts = core-parts c k in
    parts-sound (with_core e c) (record { transform = parts.0; geometry = parts.1; stream = (sound-parts e h).stream })

-- ---- fresh and start

pub fresh-sound : sound fresh ≡ true
unfolding sound sound_core sound_transform sound_geometry sound_waiting list_of sound_stream pending_of sound_pending
    commands_of command_bytes counted known lookup command_rows fresh_transform fresh_geometry fresh_stream fresh
fresh-sound = refl

rooms-geometry : (v p : ℕ) → rooms_allowed v p ≡ true
    → sound_geometry (with_rooms fresh v p).core.registers.geometry ≡ true
unfolding with_rooms fresh fresh_geometry sound_geometry sound_waiting list_of
rooms-geometry v p h = simp (h, le-leb 0 v (omega arith), le-leb 0 p (omega arith))

rooms-kept : (v p : ℕ) → rooms_allowed v p ≡ true → sound (with_rooms fresh v p) ≡ true
unfolding with_rooms
rooms-kept v p h =
    core-kept fresh (with_rooms fresh v p).core fresh-sound
    (parts-core (with_rooms fresh v p).core (sound-parts fresh fresh-sound).transform (rooms-geometry v p h))

-- a start answers with a sound engine, refused or not
pub start-sound : (v p : ℕ) → sound (start v p).engine ≡ true
unfolding start
start-sound v p =
    cond_case (λ (a : Answer). sound a.engine ≡ true) (rooms_allowed v p) (answered 0 (with_rooms fresh v p))
    (answered 11 fresh) (rooms-kept v p) (λ h. fresh-sound)

-- and with nothing pending
fresh-idle : is_pending (pending_of fresh.stream) ≡ false
unfolding pending_of commands_of command_bytes counted known lookup command_rows fresh_stream fresh
fresh-idle = refl

same-stream : (v p : ℕ) → (with_rooms fresh v p).stream ≡ fresh.stream
unfolding with_rooms
same-stream v p = refl

pub start-idle : (v p : ℕ) → is_pending (pending_of (start v p).engine.stream) ≡ false
unfolding start
start-idle v p =
    cond_case (λ (a : Answer). is_pending (pending_of a.engine.stream) ≡ false) (rooms_allowed v p)
    (answered 0 (with_rooms fresh v p)) (answered 11 fresh)
    (λ h. ap (λ (s : Stream). is_pending (pending_of s)) (same-stream v p) ∙ fresh-idle)
    (λ h. fresh-idle)
