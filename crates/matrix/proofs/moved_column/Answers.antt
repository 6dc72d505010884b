use mathlib.Core.Path.{◌∙◌, ap}
use Prim.Native.Nat.{◌+◌, ◌/◌, ◌^◌, ◌<◌}
use lib.IntN.{ℤ, pos, ◌+ℤ◌, ◌*ℤ◌}
use lib.ListN.{length, get_or}
use lib.Signed.{mag}
use mir.Syntax.{w32}
use Rattle.lowbits.specs.Bits.{signed_low}
use Rattle.lowbits.proofs.Read.{again}
use Rattle.products.specs.Inside.{number, sum_of}
use Rattle.matrix.specs.Matrix.{entry, at, one}
use Rattle.matrix.proofs.Arrays.{number_at}
use Rattle.matrix.proofs.Rows.{by_sum_plus}
use borrow.Author.Rules.{rules}
use Rattle.matrix.proofs.moved_column.Goals as goal

pub returns : goal.returns
unfolding entry
returns c =
    let a = c.args.a in
    let m = c.args.c in
    let j = c.args.j in
    let h0 : j < length a = search rules in
    let h1 : 4 + j < length a = search rules in
    let h2 : 8 + j < length a = search rules in
    let c0 = number_at a c.requires.same j h0 in
    let c1 = number_at a c.requires.same (4 + j) h1 in
    let c2 = number_at a c.requires.same (8 + j) h2 in
    let fits : mag (at m (12 + j)) < 2 ^ 31 = search rules in
    let x = number c.args.x in
    let y = number c.args.y in
    let z = number c.args.z in
    let three = x *ℤ number (get_or a j 0) +ℤ y *ℤ number (get_or a (4 + j) 0) +ℤ z *ℤ number (get_or a (8 + j) 0) in
    again w32 _ c.rounded_plus.type_inv ∙ c.rounded_plus.ensures
    ∙ ap (λ (d : ℤ). signed_low 32 (pos (sum_of c.three_products.result / 2 ^ 12) +ℤ d)) (again w32 (at m (12 + j)) fits)
    ∙ by_sum_plus three (at m (12 + j)) c.three_products.ensures.result_value
    ∙ (λ t. entry x y z one (c0 t) (c1 t) (c2 t) (at m (12 + j)))
