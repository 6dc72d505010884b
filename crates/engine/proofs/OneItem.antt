-- A feed of one item is a call.
use mathlib.Core.Bool.{Bool, true, false, cond, ◌&&◌}
use mathlib.Core.List.{List, [], ◌∷◌}
use mathlib.Core.Path.{◌≡◌, refl, sym, ap, ◌∙◌}
use Prim.Native.Nat.{ℕ}
use lib.Dec.{eqb}
use lib.IntN.{ℤ}
use borrow.Author.Tests.{eqb-true}
use Rattle.stream.specs.Pending.{Pending, sound_pending}
use Rattle.stream.specs.Step.{Step, refused, accepted}
use Rattle.stream.specs.Call.{Machine, Reply, reply, after_step, call_by}
use Rattle.stream.specs.Feed.{Fed, fed, one_more_taken, feed, list_by}
use Rattle.stream.proofs.FeedLaws.{list-some}
use Rattle.state.specs.declared.Core.{Core}
use Rattle.state.specs.declared.Engine.{Engine}
use Rattle.polygons.specs.Buffers.{Buffered}
use Rattle.execute.specs.Call.{engine_rules, machine_of}

module _ {State A : Type 0} (call : Machine State → A → Reply State) (m : Machine State) (a : A) where
  one : feed call m (a ∷ []) ≡ fed (cond (eqb (call m a).number 0) 1 0) (call m a).number (call m a).left
  one = by (eqb (call m a).number 0) refl
    where
      by : (t : Bool) → eqb (call m a).number 0 ≡ t
          → cond t (one_more_taken (fed 0 0 (call m a).left)) (fed 0 (call m a).number (call m a).left)
          ≡ fed (cond t 1 0) (call m a).number (call m a).left
      by true is = ap (λ (n : ℕ). fed 1 n (call m a).left) (sym (eqb-true (call m a).number 0 is))
      by false is = refl

  -- where the item is refused, none is taken
  none : ((call m a).number ≡ 0 → ⊥) → ◌≡◌ {A = ℕ} (cond (eqb (call m a).number 0) 1 0) 0
  none n = by (eqb (call m a).number 0) refl
    where
      by : (t : Bool) → eqb (call m a).number 0 ≡ t → ◌≡◌ {A = ℕ} (cond t 1 0) 0
      by true is = absurd (n (eqb-true (call m a).number 0 is))
      by false is = refl

-- the place of a call is 0
module _ {A : Type 0} (step : Pending → A → Step) (m : Machine (Buffered Core)) (a : A) where
  no_place : (call_by engine_rules step m a).place ≡ 0
  unfolding call_by
  no_place =
      by (engine_rules.sound m.state && sound_pending m.pending) (engine_rules.long_enough m.state)
      (step m.pending a)
    where
      by : (s l : Bool) (t : Step) → (cond s (cond l (after_step engine_rules m t) (reply 2 m)) (reply 1 m)).place ≡ 0
      by true true (refused n) = refl
      by true true (accepted p cs) = refl
      by true false t = refl
      by false l t = refl

-- what the feed of one item promises is what the call does
module _ {A : Type 0} (step : Pending → A → Step) (e : Engine) (vertices : List ℤ) (polygons : List ℕ) (a : A)
    (taken number : ℕ) (f : Engine) (vs : List ℤ) (ps : List ℕ)
    (is : fed taken number (machine_of f vs ps)
    ≡ list_by engine_rules step (machine_of e vertices polygons) (a ∷ [])) where
  abbrev x : Reply (Buffered Core)
  x = call_by engine_rules step (machine_of e vertices polygons) a

  told : fed taken number (machine_of f vs ps) ≡ fed (cond (eqb x.number 0) 1 0) x.number x.left
  told =
      is ∙ list-some engine_rules step (machine_of e vertices polygons) a []
      ∙ one (call_by engine_rules step) (machine_of e vertices polygons) a

  pub one-reply : reply number (machine_of f vs ps) ≡ x
  one-reply = λ i. record {
    number = (told i).number;
    place = (sym (no_place step (machine_of e vertices polygons) a)) i;
    left = (told i).left;
  }

  pub one-given-back : ((number ≡ 0 → ⊥) → taken ≡ 0 → f ≡ e) → (number ≡ 0 → ⊥) → f ≡ e
  one-given-back back n =
      back n
      (ap (λ (f : Fed (Buffered Core)). f.taken) told
      ∙ none (call_by engine_rules step) (machine_of e vertices polygons) a
      (λ z. n (ap (λ (f : Fed (Buffered Core)). f.number) told ∙ z)))
