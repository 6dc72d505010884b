use mathlib.Core.Path.{◌≡◌, refl, sym, ◌∙◌}
use Prim.Native.Nat.{ℕ, zero, suc, max}
use native.Mathlib.Omega.{arith}
use Rattle.stream.specs.Unpack.{writes_for}
use Rattle.stream.proofs.UnpackLaws.{writes_for_some}
use Rattle.stream.proofs.writes_for.Goals as goal

more : (n : ℕ) → max n 1 ≡ writes_for n
unfolding writes_for
more zero = refl
more (suc n) = omega arith ∙ sym (writes_for_some (suc n) (omega arith))

pub returns : goal.returns
returns c = c.max.ensures ∙ more c.args.count
