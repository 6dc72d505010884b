-- What `std::array::from_fn` makes, where a call leaves the closure as it was.
use mathlib.Core.Bool.{Bool, true, false}
use mathlib.Core.List.{List}
use mathlib.Core.Path.{◌≡◌, refl, sym, subst}
use Prim.Native.Nat.{ℕ, zero, suc, ◌+◌, ◌≤◌, ◌<◌}
use native.Mathlib.Omega.{arith}
use lib.Dec.{eqb}
use lib.ListN.{get_or}
use denote.Param.Members.{Mut}
use borrow.Author.Tests.{eqb-true, eqb-false}
use Rattle.std.specs.Array.{IsFromFnResult, IsFromFnResultFrom}
use Rattle.std.specs.Fn.{Called}

module _ {F B : Type 0} (g : Mut F (ℕ × Unit {0}) B) (f : F) (P : ℕ → B → Type 0) (N : ℕ)
    (call : (k : ℕ) (y : B) (q : F) → k < N → Called g f (k, tt) y q → P k y × (q ≡ f)) where
  from : (ys : List B) (i n : ℕ) → i + n ≤ N → IsFromFnResultFrom g f ys i n → (k : ℕ) (d : B) → i ≤ k → k < i + n → P k (get_or ys k d)
  from ys i zero l r k d p h = absurd (omega arith)
  from ys i (suc n) l r k d p h =
      by (eqb k i) (eqb-true k i) (eqb-false k i)
      (λ other. from ys (i + 1) n (omega arith) (subst (λ (q : F). IsFromFnResultFrom g q ys (i + 1) n) one.1 r.4) k d (omega arith) (omega arith))
    where
      one : P i r.1 × (r.0 ≡ f)
      one = call i r.1 r.0 (omega arith) r.3

      by : (t : Bool) → (t ≡ true → k ≡ i) → (t ≡ false → k ≡ i → ⊥) → ((k ≡ i → ⊥) → P k (get_or ys k d)) → P k (get_or ys k d)
      by true y z rest = subst (λ (j : ℕ). P j (get_or ys j d)) (sym (y refl)) (subst (P i) (sym (r.2.1 d)) one.0)
      by false y z rest = rest (z refl)

  pub made : (ys : List B) → IsFromFnResult g f ys N → (k : ℕ) (d : B) → k < N → P k (get_or ys k d)
  made ys r k d h = from ys 0 N (omega arith) r.each k d (omega arith) (omega arith)
