-- The calls keep the engine sound, the rooms and the lengths of the buffers, whatever they answer.
use mathlib.Core.Bool.{true, and-eq-true_iff}
use mathlib.Core.List.{List}
use mathlib.Core.Path.{◌≡◌, refl, sym, subst}
use Prim.Native.Nat.{ℕ}
use lib.IntN.{ℤ}
use lib.ListN.{length}
use Rattle.stream.specs.Pending.{Pending, sound_pending}
use Rattle.stream.specs.Command.{Command, Complete, Write}
use Rattle.stream.specs.Step.{Step, word_step, port_step}
use Rattle.stream.specs.Call.{Machine, call_by}
use Rattle.stream.specs.Feed.{Fed, list_by}
use Rattle.stream.proofs.StepLaws.{word_keeps, port-keeps}
use Rattle.stream.proofs.CallLaws.{Keeping, call-keeps}
use Rattle.stream.proofs.FeedLaws.{list-keeps}
use Rattle.state.specs.declared.Core.{Core}
use Rattle.state.specs.declared.Engine.{Engine}
use Rattle.state.specs.declared.ListAnswer.{ListAnswer}
use Rattle.state.specs.Sound.{sound_core, pending_of, sound_stream, sound}
use Rattle.state.proofs.SoundLaws.{sound-parts}
use Rattle.polygons.specs.Buffers.{Buffered, buffered}
use Rattle.execute.proofs.Keeps.{CoreKept, core-kept-more, execute-kept}
use Rattle.execute.specs.Call.{exec, engine_rules, machine_of, word_reply, port_reply, fed_of}
use Rattle.execute.proofs.Calls.{sound-core}

-- an engine and its buffers after a call
pub record EngineKept (e : Engine) (vertices : List ℤ) (polygons : List ℕ) (f : Engine) (vs : List ℤ) (ps : List ℕ)
    : Type 0 where
  pub is-sound : sound f ≡ true
  pub rooms : f.core.registers.geometry.rooms ≡ e.core.registers.geometry.rooms
  pub vertices-length : length vs ≡ length vertices
  pub polygons-length : length ps ≡ length polygons

module _ (e : Engine) (vertices : List ℤ) (polygons : List ℕ) where
  abbrev start : Buffered Core
  start = buffered e.core vertices polygons

  -- what calls keep from where the first began, whatever they answer
  abbrev pub Kept : Machine (Buffered Core) → Type 0
  Kept = Keeping (CoreKept start)

  more : (c : Command) (s : Buffered Core) → Complete c → CoreKept start s → CoreKept start (exec c s)
  more c s w k = core-kept-more start s (exec c s) k (execute-kept c.byte c.parameters s k.sound)

  pub kept-at-first : sound e ≡ true → Kept (machine_of e vertices polygons)
  unfolding sound_stream
  kept-at-first h =
      (record { sound = sound-core e h; rooms = refl; vertices = refl; polygons = refl }, (sound-parts e h).stream)

  pub kept-by-word : (m : Machine (Buffered Core)) (w : ℕ) → Kept m → Kept (word_reply m w).left
  kept-by-word = call-keeps engine_rules (CoreKept start) more word_step word_keeps

  pub kept-by-port : (m : Machine (Buffered Core)) (w : Write) → Kept m → Kept (port_reply m w).left
  kept-by-port = call-keeps engine_rules (CoreKept start) more port_step port-keeps

  -- an engine and its buffers, from what they stand for
  pub engine-kept : (f : Engine) (vs : List ℤ) (ps : List ℕ) → Kept (machine_of f vs ps)
      → EngineKept e vertices polygons f vs ps
  unfolding sound sound_stream
  engine-kept f vs ps k =
      record {
        is-sound = (and-eq-true_iff (sound_core f.core) (sound_pending (pending_of f.stream))).1 (k.0.sound, k.1);
        rooms = k.0.rooms;
        vertices-length = k.0.vertices;
        polygons-length = k.0.polygons;
      }

-- ---- many items in one call

-- an answer that meets the contract of such a call
pub list-kept : (e : Engine) (vertices : List ℤ) (polygons : List ℕ) → sound e ≡ true
    → {A : Type 0} (step : Pending → A → Step)
    → ((m : Machine (Buffered Core)) (a : A) → Kept e vertices polygons m
    → Kept e vertices polygons (call_by engine_rules step m a).left)
    → (items : List A) (r : ListAnswer) (vs : List ℤ) (ps : List ℕ)
    → fed_of r vs ps ≡ list_by engine_rules step (machine_of e vertices polygons) items
    → EngineKept e vertices polygons r.engine vs ps
list-kept e vertices polygons h step keeps items r vs ps told =
    engine-kept e vertices polygons r.engine vs ps
    (subst (λ (f : Fed (Buffered Core)). Kept e vertices polygons f.left) (sym told)
    (list-keeps engine_rules step (machine_of e vertices polygons) (Kept e vertices polygons) keeps items
    (kept-at-first e vertices polygons h)))
