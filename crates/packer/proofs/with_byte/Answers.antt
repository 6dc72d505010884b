use mathlib.Core.Path.{◌≡◌}
use Prim.Native.Nat.{ℕ, zero, suc, ◌+◌, ◌*◌, ◌^◌, ◌%◌, ◌<◌}
use native.Mathlib.Omega.{arith}
use Rattle.packer.proofs.with_byte.Goals as goal
use Rattle.packer.proofs.with_byte.Goals.{After-from}

-- a byte in its place among the four bytes of a word
record Placed (word byte slot : ℕ) : Type 0 where
  shifted : byte * 2 ^ (8 * slot) % 4294967296 ≡ 256 ^ slot * byte
  below : word + 256 ^ slot * byte < 256 ^ (slot + 1)
  fits : word + 256 ^ slot * byte < 4294967296

placed : (word byte slot : ℕ) → slot < 4 → byte < 256 → word < 256 ^ slot → Placed word byte slot
placed word byte zero s b w = record { shifted = omega arith; below = omega arith; fits = omega arith }
placed word byte (suc zero) s b w = record { shifted = omega arith; below = omega arith; fits = omega arith }
placed word byte (suc (suc zero)) s b w =
    record { shifted = omega arith; below = omega arith; fits = omega arith }
placed word byte (suc (suc (suc zero))) s b w =
    record { shifted = omega arith; below = omega arith; fits = omega arith }
placed word byte (suc (suc (suc (suc slot)))) s b w = absurd (omega arith)

place : (c : After-from) → Placed c.args.word c.args.byte c.args.slot
place c = placed c.args.word c.args.byte c.args.slot c.requires.slot_bound (omega arith) c.requires.word_bound

pub overflow_add-result : goal.overflow_add-result
overflow_add-result c =
    let p = place (goal.at.overflow_add-result c).After-from in
    rw (c.from.ensures, p.shifted) (omega (arith, p.fits))

pub returns-clause-value : goal.returns-clause-value
returns-clause-value c =
    let p = place (goal.at.returns-clause-value c).After-from in
    rw (c.from.ensures, p.shifted)

pub returns-clause-upper_bound : goal.returns-clause-upper_bound
returns-clause-upper_bound c =
    let p = place (goal.at.returns-clause-upper_bound c).After-from in
    rw (c.from.ensures, p.shifted) p.below
