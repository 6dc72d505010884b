-- Parameters taken one after the other, over any step and any item. With h held `on h` is pending, of n parameters.
use mathlib.Core.List.{List, [], ◌∷◌, ◌++◌, map, append-nil, append_assoc}
use mathlib.Core.Path.{◌≡◌, subst}
use Prim.Native.Nat.{ℕ, ◌+◌, ◌≤◌, ◌<◌}
use native.Mathlib.Omega.{arith}
use lib.ListN.{length, take, drop}
use lib.Seq.{length-take-le}
use Rattle.stream.specs.Pending.{Pending}
use Rattle.stream.specs.Command.{Command}
use Rattle.stream.specs.Step.{Step, accepted}
use Rattle.stream.proofs.StepLaws.{length-snoc}
use Rattle.turns.specs.Inside.{Held, AllTaken, no_item, one-item}
use Rattle.turns.proofs.HeldLaws.{held_now}

module _ {A : Type 0} (step : Pending → A → Step) (item : ℕ → A) (on : List ℕ → Pending) (n : ℕ)
    (more : (h : List ℕ) (w : ℕ) → length h + 1 < n → step (on h) (item w) ≡ accepted (on (h ++ w ∷ [])) []) where
  -- some are still lacking
  some-held : (h ws : List ℕ) → length h + length ws < n → AllTaken step (on h) (map item ws) (on (h ++ ws)) []
  some-held h [] few = rw (append-nil h) no_item
  some-held h (w ∷ ws) few =
      subst (λ (k : List ℕ). AllTaken step (on h) (map item (w ∷ ws)) (on k) []) (append_assoc h (w ∷ []) ws)
      (one-item (more h w (omega arith)) (some-held (h ++ w ∷ []) ws (omega (arith, length-snoc h w))))

  -- none is: they leave q and complete cs
  module _ (q : Pending) (cs : List ℕ → List Command)
      (last : (h : List ℕ) (w : ℕ) → length h + 1 ≡ n → step (on h) (item w) ≡ accepted q (cs (h ++ w ∷ []))) where
    all_held : (h ws : List ℕ) → 1 ≤ length ws → length h + length ws ≡ n
        → AllTaken step (on h) (map item ws) q (cs (h ++ ws))
    all_held h [] some all = absurd (omega arith)
    all_held h (w ∷ []) some all =
        subst (λ (ds : List Command). AllTaken step (on h) (map item (w ∷ [])) q ds) (append-nil (cs (h ++ w ∷ [])))
        (one-item (last h w all) no_item)
    all_held h (w ∷ v ∷ ws) some all =
        subst (λ (k : List ℕ). AllTaken step (on h) (map item (w ∷ v ∷ ws)) q (cs k))
        (append_assoc h (w ∷ []) (v ∷ ws))
        (one-item (more h w (omega arith))
        (all_held (h ++ w ∷ []) (v ∷ ws) (omega arith) (omega (arith, length-snoc h w))))

  -- the same of a buffer
  module _ {items : List A} {i : ℕ} {old : List ℕ} {to : ℕ} {new : List ℕ} {many : ℕ}
      (h : Held item items i old to new many) (long : length old ≡ 32) (small : n ≤ 32) where
    pub some-taken : to + many < n
        → AllTaken step (on (take to old)) (take many (drop i items)) (on (take (to + many) new)) []
    some-taken few =
        rw (held_now h long (omega arith), h.items-are)
        (some-held (take to old) h.values (omega (arith, h.size, length-take-le to old (omega arith))))

    pub all-taken : (q : Pending) (cs : List ℕ → List Command)
        → ((h : List ℕ) (w : ℕ) → length h + 1 ≡ n → step (on h) (item w) ≡ accepted q (cs (h ++ w ∷ [])))
        → 1 ≤ many → to + many ≡ n
        → AllTaken step (on (take to old)) (take many (drop i items)) q (cs (take n new))
    all-taken q cs last some all =
        rw (← all, held_now h long (omega arith), h.items-are)
        (all_held q cs last (take to old) h.values (omega (arith, h.size))
        (omega (arith, h.size, length-take-le to old (omega arith))))
