use Rattle.std.proofs.Common.{◌≡◌, ℕ, ◌+◌, ◌-◌, ◌*◌, ◌%◌, ◌^◌, ◌≤◌, pos, sym, ap, ◌∙◌, subst, mod-lt, pow_pos, pow_mono, arith, to_z-of_z, w16, w32, SFits, to_z, of_z}
use lib.Signed.{shr_z}
use Rattle.lowbits.specs.Bits.{floor_bits, low_bits, as_signed, signed_low}
use Rattle.lowbits.proofs.Laws.{narrowed, signed_in}
use Rattle.lowbits.proofs.Read.{reads, shifted}
use Rattle.lowbits.proofs.signed_low.Given.{Over}
use Rattle.lowbits.proofs.signed_low.Goals as goal
use Rattle.lowbits.proofs.signed_low.Goals.{After-cast_signed}

module _ (g : Over) (c : After-cast_signed g) where
  value : to_z w32 (of_z w32 (shr_z (to_z w32 (of_z w32 c.cast_signed.result)) (2 ^ (32 - g.row.WIDTH))))
      ≡ signed_low g.row.WIDTH (pos c.args.word)
  unfolding low_bits
  value =
      let k = g.row.WIDTH in
      let j = 32 - k in
      let x = c.args.word in
      let all : 32 ≡ k + j = omega arith in
      shifted w32 j c.cast_signed.result c.cast_signed.type_inv
      ∙ ap (floor_bits j) (c.cast_signed.ensures ∙ reads w32 ((x * 2 ^ j) % 2 ^ 32) (mod-lt (x * 2 ^ j) (pow_pos 32)))
      ∙ ap (λ (n : ℕ). floor_bits j (as_signed n ((x * 2 ^ j) % 2 ^ n))) all
      ∙ narrowed k j x

  fits : SFits w16 (signed_low g.row.WIDTH (pos c.args.word))
  unfolding low_bits
  fits =
      let k = g.row.WIDTH in
      let narrow : 2 ^ k ≤ 2 ^ 16 = pow_mono {i = k} {j = 16} (omega arith) in
      record {
        sfits = omega (arith, signed_in k (c.args.word % 2 ^ k) (omega arith) (mod-lt c.args.word (pow_pos k)), narrow);
      }

pub overflow_cast-result-2 : goal.overflow_cast-result-2
overflow_cast-result-2 g c = subst (SFits w16) (sym (value g c)) (fits g c)

pub returns : goal.returns
returns g c = to_z-of_z {w = w16} (overflow_cast-result-2 g c) ∙ value g c
