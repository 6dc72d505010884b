-- One more than an odd number is even, and one more than an even number odd.
use mathlib.Core.Bool.{Bool, true, false, not}
use mathlib.Core.Path.{◌≡◌, refl}
use Prim.Native.Nat.{ℕ, suc, ◌%◌}
use native.Mathlib.Omega.{arith}
use borrow.Author.Tests.{eqb-true, eqb-false, eq-eqb, ne_eqb}
use Rattle.words.specs.Odd.{is_odd}

pub odd-suc : (n : ℕ) → is_odd (suc n) ≡ not (is_odd n)
odd-suc n = by (is_odd n) refl
  where
    by : (odd : Bool) → is_odd n ≡ odd → is_odd (suc n) ≡ not odd
    by true e = ne_eqb (suc n % 2) 1 (λ f. omega (arith, eqb-true (n % 2) 1 e))
    by false e =
        let even : n % 2 ≡ 0 = omega (arith, eqb-false (n % 2) 1 e) in
        eq-eqb (suc n % 2) 1 (omega arith)
