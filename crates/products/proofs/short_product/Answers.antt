use Rattle.std.proofs.Common.{◌≡◌, ◌≤◌, ◌*ℤ◌, nat_abs, sym, ◌∙◌, subst, ap₂, le_trans, lt_of_le_of_lt, mul-le-mul, lit<, to_z-of_z, w16, w32, SFits, to_z, of_z}
use lib.Signed.{nat_abs-le}
use Rattle.lowbits.proofs.Laws.{mag-mul}
use Rattle.lowbits.proofs.Read.{widens, widened}
use Rattle.products.proofs.short_product.Goals as goal
use Rattle.products.proofs.short_product.Goals.{Start}

pub overflow_cast-result : goal.overflow_cast-result
overflow_cast-result c = widens w16 w32 tt c.ranges.x

read : (c : Start)
    → to_z w32 (of_z w32 (to_z w16 (of_z w16 c.args.x))) *ℤ to_z w32 (of_z w32 c.args.half)
    ≡ c.args.x *ℤ c.args.half
read c = ap₂ ◌*ℤ◌ (widened w16 w32 tt c.ranges.x) (to_z-of_z c.ranges.half)

pub overflow_mul-result : goal.overflow_mul-result
overflow_mul-result c =
    let x : nat_abs c.args.x ≤ 0x8000 = nat_abs-le c.args.x c.ranges.x.sfits in
    subst (SFits w32) (sym (read c))
    (record {
      sfits = lt_of_le_of_lt (le_trans (mag-mul c.args.x c.args.half) (mul-le-mul x c.requires)) (lit< tt);
    })

pub returns : goal.returns
returns c = to_z-of_z (overflow_mul-result c) ∙ read c
