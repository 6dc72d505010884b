use Rattle.std.proofs.Common.{◌≡◌, ◌*◌, ◌^◌, ◌<◌, ℤ, pos, ◌*ℤ◌, sym, ap, ◌∙◌, subst, arith, to_z-of_z, w16, SFits, to_z, of_z}
use Rattle.lowbits.specs.Bits.{floor_bits, low_bits, signed_low}
use Rattle.lowbits.proofs.Laws.{low-lt, signed_in, signed_shifted_left}
use Rattle.lowbits.proofs.Read.{again}
use Rattle.lowbits.proofs.field10_by_64.Goals as goal
use Rattle.lowbits.proofs.field10_by_64.Goals.{After-field}

value : (c : After-field) → to_z w16 (of_z w16 c.field.result) *ℤ pos 64 ≡ signed_low 10 (floor_bits c.args.at (pos c.args.word)) *ℤ pos 64
value c = ap (λ (z : ℤ). z *ℤ pos 64) (again w16 _ c.field.type_inv ∙ c.field.ensures)

-- a number of 10 signed bits, times 64, has 16
fits : (z : ℤ) → SFits w16 (signed_low 10 z *ℤ pos 64)
fits z =
    let n = low_bits 10 z in
    let h : n < 2 ^ 10 = low-lt 10 z in
    subst (SFits w16) (signed_shifted_left 10 6 n h)
    (record { sfits = omega (arith, signed_in 16 (n * 64) (omega arith) (omega arith)) })

pub overflow_mul-result : goal.overflow_mul-result
overflow_mul-result c = subst (SFits w16) (sym (value c)) (fits (floor_bits c.args.at (pos c.args.word)))

pub returns : goal.returns
returns c = to_z-of_z {w = w16} (overflow_mul-result c) ∙ value c
