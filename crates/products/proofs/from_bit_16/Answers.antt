use Rattle.std.proofs.Common.{◌^◌, ◌<◌, ◌≤◌, ℤ, pos, negsuc, nat_abs, sym, subst, arith, w32}
use lib.Signed.{mag}
use Rattle.lowbits.specs.Bits.{floor_bits}
use Rattle.lowbits.proofs.Read.{shifted}
use Rattle.products.proofs.from_bit_16.Goals as goal

small : (z : ℤ) → mag z < 2 ^ 31 → nat_abs (floor_bits 16 z) ≤ 0x8000
unfolding floor_bits
small (pos n) h = omega arith
small (negsuc n) h = omega arith

pub returns : goal.returns
returns c =
    let read = shifted w32 16 c.args.a c.ranges.a.sfits in
    (read, subst (λ (z : ℤ). nat_abs z ≤ 0x8000) (sym read) (small c.args.a c.ranges.a.sfits))
