-- What waits after a polygon, by the list's number.
use mathlib.Core.Bool.{Bool, true, false, ◌||◌, false≢true}
use mathlib.Core.List.{List}
use mathlib.Core.Path.{◌≡◌, refl, sym, ap}
use Prim.Native.Nat.{ℕ, ◌-◌, ◌≤◌}
use lib.Dec.{eqb, lit≤}
use lib.IntN.{ℤ}
use borrow.Author.Tests.{eqb-true, eqb-false}
use Rattle.state.specs.declared.OpenList.{OpenList}
use Rattle.state.specs.declared.Waiting.{Waiting}
use Rattle.state.specs.List.{list_of}
use Rattle.state.proofs.ListLaws.{closed_else}
use Rattle.geometry.specs.Vertex.{remaining}

-- a number is one of two, or neither
either : (P : ℕ → Type 0) (a b n : ℕ) → (eqb n a || eqb n b) ≡ true → P a → P b → P n
either P a b n h p q = by (eqb n a) (eqb n b) refl refl h
  where
    by : (t u : Bool) → eqb n a ≡ t → eqb n b ≡ u → (t || u) ≡ true → P n
    by true u x y z = rw (eqb-true n a x) p
    by false true x y z = rw (eqb-true n b y) q
    by false false x y z = absurd (false≢true z)

neither : (a b n : ℕ) → (eqb n a || eqb n b) ≡ false → (n ≡ a → ⊥) × (n ≡ b → ⊥)
neither a b n h = by (eqb n a) (eqb n b) refl refl h
  where
    by : (t u : Bool) → eqb n a ≡ t → eqb n b ≡ u → (t || u) ≡ false → (n ≡ a → ⊥) × (n ≡ b → ⊥)
    by true u x y z = absurd (false≢true (sym z))
    by false true x y z = absurd (false≢true (sym z))
    by false false x y z = (eqb-false n a x, eqb-false n b y)

pub strip-small : (n : ℕ) → (eqb n 3 || eqb n 4) ≡ true → n ≤ 7
strip-small n h = either (λ (n : ℕ). n ≤ 7) 3 4 n h (lit≤ tt) (lit≤ tt)

module _ (w : Waiting) (v : List ℤ) where
  -- the last two of a triangle strip, whose next k is then odd where this one was even
  pub strip_remains : (n : ℕ) → (eqb n 3 || eqb n 4) ≡ true
      → record { list = 7 - n; first = w.second; second = v; third = w.third; count = 2 } ≡ remaining (list_of n) w v
  unfolding list_of remaining
  strip_remains n h =
      either (λ (n : ℕ). record { list = 7 - n; first = w.second; second = v; third = w.third; count = 2 }
      ≡ remaining (list_of n) w v) 3 4 n h refl refl

  -- those of a quad strip
  pub quads_remain : (n : ℕ) → n ≡ 5
      → record { list = n; first = w.third; second = v; third = w.third; count = 2 } ≡ remaining (list_of n) w v
  unfolding list_of remaining
  quads_remain n h = rw h refl

  -- none of triangles and quads
  pub none_remains : (n : ℕ) → (eqb n 1 || eqb n 2) ≡ true
      → record { list = n; first = w.first; second = w.second; third = w.third; count = 0 }
      ≡ remaining (list_of n) w v
  unfolding list_of remaining
  none_remains n h =
      either (λ (n : ℕ). record { list = n; first = w.first; second = w.second; third = w.third; count = 0 }
      ≡ remaining (list_of n) w v) 1 2 n h refl refl

  -- a closed list stays as it is
  pub closed_remains : (n : ℕ) → (eqb n 3 || eqb n 4) ≡ false → (n ≡ 5 → ⊥) → (eqb n 1 || eqb n 2) ≡ false
      → w ≡ remaining (list_of n) w v
  unfolding remaining
  closed_remains n strip five two =
      let a = neither 3 4 n strip in
      let b = neither 1 2 n two in
      sym (ap (λ (l : OpenList). remaining l w v) (closed_else n b.0 b.1 a.0 a.1 five))
