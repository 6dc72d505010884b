-- The open list and its number.
use mathlib.Core.Bool.{Bool, true, false, not, ◌||◌}
use mathlib.Core.Path.{◌≡◌, refl, sym, ◌∙◌}
use Prim.Native.Nat.{ℕ, zero, suc}
use native.Mathlib.Omega.{arith}
use lib.Dec.{eqb}
use borrow.Author.Tests.{ltb-true, le-ltb, ne_eqb}
use Rattle.state.specs.declared.OpenList.{OpenList}
use Rattle.state.specs.declared.OpenList.TheVariants.{Closed, Triangles, Quads, TriangleStrip, QuadStrip}
use Rattle.state.specs.List.{is_list, list_of, number_of, kind_in, next_odd}
use Rattle.state.specs.Sound.{is_closed}

pub list_back : (l : OpenList) → list_of (number_of l) ≡ l
unfolding list_of
list_back Closed = refl
list_back Triangles = refl
list_back Quads = refl
list_back (TriangleStrip false) = refl
list_back (TriangleStrip true) = refl
list_back QuadStrip = refl

-- the number of any list stands for one
pub number-is-list : (l : OpenList) → is_list (number_of l) ≡ true
number-is-list Closed = refl
number-is-list Triangles = refl
number-is-list Quads = refl
number-is-list (TriangleStrip false) = refl
number-is-list (TriangleStrip true) = refl
number-is-list QuadStrip = refl

-- number 0 and those that stand for none name a closed list
pub closed-numbers : (n : ℕ) → (eqb n 0 || not (is_list n)) ≡ is_closed (list_of n)
unfolding list_of
closed-numbers zero = refl
closed-numbers (suc zero) = refl
closed-numbers (suc (suc zero)) = refl
closed-numbers (suc (suc (suc zero))) = refl
closed-numbers (suc (suc (suc (suc zero)))) = refl
closed-numbers (suc (suc (suc (suc (suc zero))))) = refl
closed-numbers (suc (suc (suc (suc (suc (suc n)))))) =
    let m : ℕ = suc (suc (suc (suc (suc (suc n))))) in
    rw (ne_eqb m 0 (λ z. omega (arith, z)), le-ltb m 6 (omega arith)) refl

-- no number but 1 to 5 names an open list
pub closed_else : (n : ℕ) → (n ≡ 1 → ⊥) → (n ≡ 2 → ⊥) → (n ≡ 3 → ⊥) → (n ≡ 4 → ⊥) → (n ≡ 5 → ⊥) → list_of n ≡ Closed
unfolding list_of
closed_else zero a b c d e = refl
closed_else (suc zero) a b c d e = absurd (a refl)
closed_else (suc (suc zero)) a b c d e = absurd (b refl)
closed_else (suc (suc (suc zero))) a b c d e = absurd (c refl)
closed_else (suc (suc (suc (suc zero)))) a b c d e = absurd (d refl)
closed_else (suc (suc (suc (suc (suc zero))))) a b c d e = absurd (e refl)
closed_else (suc (suc (suc (suc (suc (suc n)))))) a b c d e = refl

-- the list of a kind, with its next k
abbrev list_with : OpenList → Bool → OpenList
list_with Closed odd = Closed
list_with Triangles odd = Triangles
list_with Quads odd = Quads
list_with (TriangleStrip even) odd = TriangleStrip odd
list_with QuadStrip odd = QuadStrip

number-told : (n : ℕ) → is_list n ≡ true → number_of (list_with (kind_in n) (next_odd n)) ≡ n
unfolding list_of
number-told zero h = refl
number-told (suc zero) h = refl
number-told (suc (suc zero)) h = refl
number-told (suc (suc (suc zero))) h = refl
number-told (suc (suc (suc (suc zero)))) h = refl
number-told (suc (suc (suc (suc (suc zero))))) h = refl
number-told (suc (suc (suc (suc (suc (suc n)))))) h =
    absurd (omega (arith, ltb-true (suc (suc (suc (suc (suc (suc n)))))) 6 h))

-- the number of a list says its kind and whether its next k is odd, and no more
pub same_number : (m n : ℕ) → is_list m ≡ true → is_list n ≡ true → kind_in m ≡ kind_in n → next_odd m ≡ next_odd n → m ≡ n
same_number m n g h k o =
    sym (number-told m g) ∙ (λ t. number_of (list_with (k t) (o t))) ∙ number-told n h
