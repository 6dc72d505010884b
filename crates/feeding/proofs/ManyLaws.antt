-- Several items of a feed that are all taken.
use mathlib.Core.List.{List, [], ◌∷◌, ◌++◌}
use mathlib.Core.Path.{◌≡◌, refl, sym, ap, subst, ◌∙◌}
use Prim.Native.Nat.{ℕ, suc, ◌+◌}
use native.Mathlib.Nat.{add-zero}
use native.Mathlib.Omega.{arith}
use lib.IntN.{ℤ}
use lib.ListN.{length, take, drop, length-drop, take-append-drop}
use lib.Seq.{drop-drop, length-take-le}
use Rattle.stream.specs.Pending.{Pending}
use Rattle.stream.specs.Command.{Command}
use Rattle.stream.specs.Step.{Step, accepted}
use Rattle.stream.proofs.CallLaws.{run-append}
use Rattle.stream.proofs.FeedLaws.{one-fed}
use Rattle.stream.specs.Call.{Machine, Reply, machine, reply, run, after_step, call_by}
use Rattle.state.specs.declared.Core.{Core}
use Rattle.state.specs.declared.Engine.{Engine}
use Rattle.polygons.specs.Buffers.{Buffered}
use Rattle.turns.specs.declared.Begun.{Begun}
use Rattle.turns.specs.declared.Turn.{Turn}
use Rattle.turns.specs.Inside.{command_in, AllTaken, no_item, one-item}
use Rattle.turns.specs.Inside.{due_of, pending_due, given_by, Turned}
use Rattle.execute.specs.Call.{exec, engine_rules}
use Rattle.execute.specs.Inside.{first_number}
use Rattle.execute.proofs.CallKeeps.{Kept}
use Rattle.feeding.proofs.LoopLaws.{Between, usable_call, still_long}

module _ (e : Engine) (vertices : List ℤ) (polygons : List ℕ)
    (first : first_number e (length vertices) (length polygons) ≡ 0)
    {A : Type 0} (step : Pending → A → Step)
    (keeps : (n : Machine (Buffered Core)) (a : A) → Kept e vertices polygons n
    → Kept e vertices polygons (call_by engine_rules step n a).left) (ws : List A) where
  -- one item that is taken
  one-taken : (i : ℕ) (s : Buffered Core) (p q : Pending) (cs : List Command) (a : A)
      → Between e vertices polygons (call_by engine_rules step) ws i (machine s p)
      → drop i ws ≡ a ∷ drop (i + 1) ws → step p a ≡ accepted q cs
      → Between e vertices polygons (call_by engine_rules step) ws (i + 1) (machine (run exec cs s) q)
  one-taken i s p q cs a b next told =
      let n : Machine (Buffered Core) = machine s p in
      let is : call_by engine_rules step n a ≡ reply 0 (machine (run exec cs s) q) =
      usable_call step n a b.kept.0.sound b.kept.1 (still_long e vertices polygons first n b.kept)
      ∙ ap (after_step engine_rules n) told in
      record {
        feeding = one-fed (call_by engine_rules step) b.feeding a next
            (reply 0 (machine (run exec cs s) q)) (sym is) refl;
        kept = subst (λ (r : Reply (Buffered Core)). Kept e vertices polygons r.left) is (keeps n a b.kept);
      }

  tail : (i : ℕ) (a : A) (k : List A) → drop i ws ≡ a ∷ k → drop (i + 1) ws ≡ k
  tail i a k d = sym (drop-drop 1 i ws) ∙ ap (drop 1) d

  -- several
  pub many-taken : (l : List A) (i : ℕ) (s : Buffered Core) (p q : Pending) (cs : List Command) (r : List A)
      → Between e vertices polygons (call_by engine_rules step) ws i (machine s p)
      → drop i ws ≡ l ++ r → AllTaken step p l q cs
      → Between e vertices polygons (call_by engine_rules step) ws (i + length l)
      (machine (run exec cs s) q)
  many-taken [] i s p q cs r b d no_item = rw (add-zero i) b
  many-taken (a ∷ l) i s p q cs r b d (one-item {q = m} {cs = xs} {ds = ys} t more) =
      let behind : drop (i + 1) ws ≡ l ++ r = tail i a (l ++ r) d in
      let next : drop i ws ≡ a ∷ drop (i + 1) ws = d ∙ ap (λ (k : List A). a ∷ k) (sym behind) in
      let far : i + suc (length l) ≡ i + 1 + length l = omega arith in
      rw (far, run-append exec xs ys s)
      (many-taken l (i + 1) (run exec xs s) m q ys r (one-taken i s p m xs a b next t) behind more)

-- ---- a turn over the items

module _ (e : Engine) (vertices : List ℤ) (polygons : List ℕ)
    (first : first_number e (length vertices) (length polygons) ≡ 0)
    {A : Type 0} (step : Pending → A → Step)
    (keeps : (n : Machine (Buffered Core)) (a : A) → Kept e vertices polygons n
    → Kept e vertices polygons (call_by engine_rules step n a).left) (ws : List A)
    (i : ℕ) (b : Begun) (old : List ℕ) (r : Turn) (new : List ℕ) (u : Turned step ws i b old r new)
    (t : Buffered Core)
    (at : Between e vertices polygons (call_by engine_rules step) ws i
    (machine (run exec (due_of b) t) (pending_due b old))) where
  -- the command that it gives has run, and those that are due then are to run
  pub after_turn : Between e vertices polygons (call_by engine_rules step) ws r.next
      (machine (run exec (due_of r.begun) (run exec (given_by (command_in r.outcome) new) t)) (pending_due r.begun new))
  after_turn =
      let l : List A = take u.many (drop i ws) in
      let size : length l ≡ u.many = length-take-le u.many (drop i ws)
      (omega (arith, u.within, length-drop i ws)) in
      let ran : run exec u.completed (run exec (due_of b) t)
      ≡ run exec (due_of r.begun) (run exec (given_by (command_in r.outcome) new) t) =
      sym (run-append exec (due_of b) u.completed t) ∙ ap (λ (cs : List Command). run exec cs t) u.order
      ∙ run-append exec (given_by (command_in r.outcome) new) (due_of r.begun) t in
      rw (u.next, ← size, ← ran)
      (many-taken e vertices polygons first step keeps ws l i (run exec (due_of b) t) (pending_due b old)
      (pending_due r.begun new) u.completed (drop u.many (drop i ws)) at
      (sym (take-append-drop u.many (drop i ws))) u.taken)
