-- What the definition of a call of many items gives, case by case: the same for words and port writes.
use mathlib.Core.Bool.{Bool, true, false, cond, ◌&&◌}
use mathlib.Core.List.{List}
use mathlib.Core.Path.{◌≡◌, refl}
use Prim.Native.Nat.{ℕ, ◌≤◌}
use native.Mathlib.Omega.{arith}
use lib.IntN.{ℤ}
use lib.ListN.{length}
use Rattle.stream.specs.Pending.{Pending}
use Rattle.stream.specs.Step.{Step}
use Rattle.stream.specs.Call.{Machine, call_by}
use Rattle.stream.specs.Feed.{fed, feed, list_by}
use Rattle.stream.proofs.FeedLaws.{list_usable}
use Rattle.state.specs.declared.Core.{Core}
use Rattle.state.specs.declared.Engine.{Engine}
use Rattle.state.specs.Sound.{sound_core, sound_stream, sound}
use Rattle.state.proofs.SoundLaws.{sound-parts, parts-core}
use Rattle.state.proofs.GeometryLaws.{geometry-ranges, room_limits}
use Rattle.state.specs.Sizes.{most_vertices, most_polygons}
use Rattle.polygons.specs.Buffers.{Buffered, long_enough}
use Rattle.execute.specs.Call.{engine_rules, machine_of}
use Rattle.execute.specs.Inside.{first_number}

-- ---- numbers 1 and 2

module _ (e : Engine) (vertices polygons : ℕ) where
  abbrev is_long : Bool
  is_long = long_enough e.core.registers.geometry.rooms vertices polygons

  pub not_sound_lem : sound e ≡ false → first_number e vertices polygons ≡ 1
  unfolding first_number
  not_sound_lem s = rw s

  pub not-long : sound e ≡ true → is_long ≡ false → first_number e vertices polygons ≡ 2
  unfolding first_number
  not-long s l = rw (s, l)

  pub neither : sound e ≡ true → is_long ≡ true → first_number e vertices polygons ≡ 0
  unfolding first_number
  neither s l = rw (s, l)

-- the rooms of a sound engine
pub sound-rooms : (e : Engine) → sound e ≡ true
    → let rooms = e.core.registers.geometry.rooms in (rooms.vertices ≤ most_vertices) × (rooms.polygons ≤ most_polygons)
sound-rooms e h = room_limits _ _ (geometry-ranges e.core.registers.geometry (sound-parts e h).geometry).rooms

pub sound-core : (e : Engine) → sound e ≡ true → sound_core e.core ≡ true
sound-core e h = let parts = sound-parts e h in parts-core e.core parts.transform parts.geometry

-- what the functions behind these two numbers require
pub record Passed (e : Engine) (vertices polygons : ℕ) : Type 0 where
  pub core : sound_core e.core ≡ true
  pub stream : sound_stream e.stream ≡ true
  pub long : is_long e vertices polygons ≡ true

pub passed : (e : Engine) (vertices polygons : ℕ) → first_number e vertices polygons ≡ 0 → Passed e vertices polygons
unfolding first_number
passed e vertices polygons = by (sound e) (is_long e vertices polygons) refl refl
  where
    by : (s l : Bool) → sound e ≡ s → is_long e vertices polygons ≡ l → ◌≡◌ {A = ℕ} (cond s (cond l 0 2) 1) 0
        → Passed e vertices polygons
    by true true p q z = record { core = sound-core e p; stream = (sound-parts e p).stream; long = q }
    by true false p q z = absurd (omega arith)
    by false l p q z = absurd (omega arith)

-- ---- many items in one call

module _ {A : Type 0} (step : Pending → A → Step) (e : Engine) (vertices : List ℤ) (polygons : List ℕ) (items : List A)
  where
    abbrev m : Machine (Buffered Core)
    m = machine_of e vertices polygons

    abbrev number : ℕ
    number = first_number e (length vertices) (length polygons)

    -- number 1 or 2
    pub refused-first : (number ≡ 0 → ⊥) → list_by engine_rules step m items ≡ fed 0 number m
    unfolding first_number list_by sound sound_stream
    refused-first =
        by (sound_core e.core && sound_stream e.stream) (is_long e (length vertices) (length polygons))
      where
        by : (s l : Bool) → (◌≡◌ {A = ℕ} (cond s (cond l 0 2) 1) 0 → ⊥)
            → cond s (cond l (feed (call_by engine_rules step) m items) (fed 0 2 m)) (fed 0 1 m)
            ≡ fed 0 (cond s (cond l 0 2) 1) m
        by true true n = absurd (n refl)
        by true false n = refl
        by false l n = refl

    -- neither: the items are fed
    pub fed-first : number ≡ 0 → list_by engine_rules step m items ≡ feed (call_by engine_rules step) m items
    unfolding sound_stream
    fed-first z =
        let p = passed e (length vertices) (length polygons) z in
        list_usable engine_rules step m items
        (record { is-sound = p.core; is-long-enough = p.long }, p.stream)
