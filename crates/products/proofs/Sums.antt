-- Sums held in parts: what a product adds, and what rounding reads.
use Rattle.std.proofs.Common.{◌≡◌, ℕ, suc, ◌+◌, ◌-◌, ◌*◌, ◌/◌, ◌%◌, ◌^◌, ◌<◌, ℤ, pos, negsuc, ◌*ℤ◌, sym, ap, ◌∙◌, ap₂, lt_of_lt_of_le, mod-eq_of_lt, mul_comm, add-mul, div-add-mod', mul-add, mul_right_comm, arith, lit<, lit≤, le-ltb, lt-ltb}
use native.Mathlib.Nat.{add-mod, mod-mod, mod-add-mod, add-mod-mod, add-mul-mod_self_right, add-mul-div_right}
use lib.IntN.{sub_ℕ}
use lib.Pow.{field, mod-mod-pow}
use lib.Signed.{mag}
use Rattle.std.proofs.lemmas.Nat.{mul-mod, mul-mod_first}
use Rattle.lowbits.specs.Bits.{floor_bits, low_bits}
use Rattle.lowbits.proofs.Halves.{low-split, cross}
use Rattle.lowbits.proofs.Laws.{low-lt, low-add, low-mul, low-low, low_floor}
use Rattle.products.specs.Inside.{number, held}

-- ---- offset binary

-- from a number's 32 bits
pub from_bits : (z : ℤ) → mag z < 2 ^ 31 → number ((low_bits 32 z + 2 ^ 31) % 2 ^ 32) ≡ z
unfolding low_bits
from_bits (pos n) h =
    let here : n % 2 ^ 32 ≡ n = mod-eq_of_lt (omega arith) in
    let small : (n + 2 ^ 31) % 2 ^ 32 ≡ n + 2 ^ 31 = mod-eq_of_lt (omega arith) in
    ap (λ (i : ℕ). sub_ℕ i (2 ^ 31)) (ap (λ (i : ℕ). (i + 2 ^ 31) % 2 ^ 32) here ∙ small)
    ∙ simp (le-ltb (n + 2 ^ 31) (2 ^ 31) (omega arith)) (ap pos (omega arith))
from_bits (negsuc n) h =
    let here : n % 2 ^ 32 ≡ n = mod-eq_of_lt (omega arith) in
    let parts : (2 ^ 32 - suc n) + 2 ^ 31 ≡ (2 ^ 31 - suc n) + 1 * 2 ^ 32 = omega arith in
    let small : (2 ^ 31 - suc n) % 2 ^ 32 ≡ 2 ^ 31 - suc n = mod-eq_of_lt (omega arith) in
    ap (λ (i : ℕ). sub_ℕ i (2 ^ 31))
    (ap (λ (i : ℕ). ((2 ^ 32 - suc i) + 2 ^ 31) % 2 ^ 32) here
    ∙ ap (λ (i : ℕ). i % 2 ^ 32) parts ∙ add-mul-mod_self_right (2 ^ 31 - suc n) 1 (2 ^ 32) ∙ small)
    ∙ simp (lt-ltb (2 ^ 31 - suc n) (2 ^ 31) (omega arith)) (ap negsuc (omega arith))

-- a product: 2 ^ 31 taken off, modulo 2 ^ 48
abbrev E : ℕ
E = 2 ^ 48 - 2 ^ 31

low-number : (x : ℕ) → low_bits 48 (number x) ≡ (x + E) % 2 ^ 48
unfolding low_bits
low-number x = low-add 48 (pos x) (negsuc (2 ^ 31 - 1)) ∙ mod-add-mod x (2 ^ 48) E

product : (x a : ℕ) → (x + E) * (a + E) ≡ x * a + (x + a) * E + (2 ^ 48 - 2 ^ 32 + 2 ^ 14) * 2 ^ 48
product x a = omega (arith, add-mul x E (a + E), mul-add x a E, mul_comm E (a + E))

pub low_product : (x a : ℕ) → low_bits 48 (number x *ℤ number a) ≡ (x * a + (x + a) * E) % 2 ^ 48
low_product x a =
    low-mul 48 (number x) (number a) ∙ ap₂ (λ (p q : ℕ). (p * q) % 2 ^ 48) (low-number x) (low-number a)
    ∙ sym (mul-mod (x + E) (a + E) (2 ^ 48))
    ∙ ap (λ (n : ℕ). n % 2 ^ 48) (product x a)
    ∙ add-mul-mod_self_right (x * a + (x + a) * E) (2 ^ 48 - 2 ^ 32 + 2 ^ 14) (2 ^ 48)

-- ---- parts that wrap at 32 bits

pub wrapped : (u m l f : ℕ) → held (u % 2 ^ 32) (m % 2 ^ 32) l (f % 2 ^ 32) ≡ held u m l f
wrapped u m l f =
    sym
    (ap (λ (n : ℕ). n % 2 ^ 48)
    (omega (arith, div-add-mod' u (2 ^ 32), div-add-mod' m (2 ^ 32), div-add-mod' f (2 ^ 32)))
    ∙ add-mul-mod_self_right (u % 2 ^ 32 * 2 ^ 32 + m % 2 ^ 32 * 2 ^ 16 + l + f % 2 ^ 32 * E)
    (u / 2 ^ 32 * 2 ^ 16 + m / 2 ^ 32 + f / 2 ^ 32 * (2 ^ 32 - 2 ^ 15)) (2 ^ 48))

-- ---- a product more, from its halves' products

module _ (x a h p q t : ℕ) (halves : x * a ≡ h * 2 ^ 32 + (p + q) * 2 ^ 16 + t) where
  pub plus : (u m l f : ℕ)
      → held ((u + h) % 2 ^ 32) (((m + p + q) % 2 ^ 32 + t / 2 ^ 16) % 2 ^ 32) (l + t % 2 ^ 16) ((f + x + a) % 2 ^ 32)
      ≡ (held u m l f + low_bits 48 (number x *ℤ number a)) % 2 ^ 48
  plus u m l f =
      ap (λ (n : ℕ). held ((u + h) % 2 ^ 32) n (l + t % 2 ^ 16) ((f + x + a) % 2 ^ 32))
      (mod-add-mod (m + p + q) (2 ^ 32) (t / 2 ^ 16))
      ∙ wrapped (u + h) (m + p + q + t / 2 ^ 16) (l + t % 2 ^ 16) (f + x + a)
      ∙ ap (λ (n : ℕ). n % 2 ^ 48) (omega (arith, halves, div-add-mod' t (2 ^ 16)))
      ∙ add-mod (u * 2 ^ 32 + m * 2 ^ 16 + l + f * E) (x * a + (x + a) * E) (2 ^ 48)
      ∙ ap (λ (n : ℕ). (held u m l f + n) % 2 ^ 48) (sym (low_product x a))

  pub alone : held 0 (((h * 2 ^ 16) % 2 ^ 32 + p + q) % 2 ^ 32) t ((x + a) % 2 ^ 32)
      ≡ low_bits 48 (number x *ℤ number a)
  alone =
      ap (λ (n : ℕ). held 0 n t ((x + a) % 2 ^ 32))
      (ap (λ (n : ℕ). n % 2 ^ 32) (omega arith) ∙ mod-add-mod (h * 2 ^ 16) (2 ^ 32) (p + q))
      ∙ wrapped 0 (h * 2 ^ 16 + (p + q)) t (x + a)
      ∙ ap (λ (n : ℕ). n % 2 ^ 48) (omega (arith, halves))
      ∙ sym (low_product x a)

-- the first of a sum's products
pub first : (z : ℤ) {n s : ℕ} → s ≡ (n + low_bits 48 z) % 2 ^ 48 → n ≡ 0 → s ≡ low_bits 48 z
first z {n} e zero =
    e ∙ ap (λ (i : ℕ). i % 2 ^ 48) (omega (arith, zero)) ∙ mod-eq_of_lt (low-lt 48 z)

-- ---- the product of a number of 16 bits more

middle_wrapped : (u m l f : ℕ) → held u (m % 2 ^ 32) l f ≡ held u m l f
middle_wrapped u m l f =
    sym
    (ap (λ (n : ℕ). n % 2 ^ 48) (omega (arith, div-add-mod' m (2 ^ 32)))
    ∙ add-mul-mod_self_right (u * 2 ^ 32 + m % 2 ^ 32 * 2 ^ 16 + l + f * E) (m / 2 ^ 32) (2 ^ 48))

gather : (p q k n : ℕ) → (p * k + q) % n ≡ ((p % n) * k + q % n) % n
gather p q k n =
    add-mod (p * k) q n
    ∙ ap₂ (λ (i j : ℕ). (i + j) % n) (sym (mul-mod_first p k n)) (sym (mod-mod q n))
    ∙ sym (add-mod (p % n * k) (q % n) n)

module _ (x a : ℤ) where
  abbrev upper : ℤ
  upper = x *ℤ floor_bits 16 a

  abbrev lower : ℤ
  lower = x *ℤ pos (low_bits 16 a)

  parts : low_bits 48 (x *ℤ a) ≡ (low_bits 48 upper * 2 ^ 16 + low_bits 48 lower) % 2 ^ 48
  parts =
      let y = low_bits 48 x in
      let h = low_bits 48 (floor_bits 16 a) in
      let l = low_bits 16 a in
      low-mul 48 x a ∙ ap (λ (n : ℕ). (y * n) % 2 ^ 48) (low-split 48 16 a)
      ∙ ap (λ (n : ℕ). n % 2 ^ 48) (mul_comm y ((h * 2 ^ 16 + l) % 2 ^ 48))
      ∙ mul-mod_first (h * 2 ^ 16 + l) y (2 ^ 48)
      ∙ ap (λ (n : ℕ). n % 2 ^ 48)
      (omega (arith, add-mul (h * 2 ^ 16) l y, mul_right_comm h (2 ^ 16) y, mul_comm h y, mul_comm l y))
      ∙ gather (y * h) (y * l) (2 ^ 16) (2 ^ 48)
      ∙ sym
      (λ t. (low-mul 48 x (floor_bits 16 a) t * 2 ^ 16
      + cross 48 x l (lt_of_lt_of_le (low-lt 16 a) (lit≤ tt)) t) % 2 ^ 48)

  pub plus-short : (u m l f : ℕ)
      → held u ((m + low_bits 32 upper + low_bits 32 (floor_bits 16 lower)) % 2 ^ 32) (l + low_bits 16 lower) f
      ≡ (held u m l f + low_bits 48 (x *ℤ a)) % 2 ^ 48
  plus-short u m l f =
      let p = low_bits 48 upper in
      let q = low_bits 48 lower in
      (λ t. held u ((m + sym (low-low 16 32 upper) t + low_floor 32 16 lower t) % 2 ^ 32)
      (l + sym (low-low 32 16 lower) t) f)
      ∙ middle_wrapped u (m + p % 2 ^ 32 + q / 2 ^ 16) (l + q % 2 ^ 16) f
      ∙ sym
      (add-mul-mod_self_right
      (u * 2 ^ 32 + (m + p % 2 ^ 32 + q / 2 ^ 16) * 2 ^ 16 + (l + q % 2 ^ 16) + f * E) (p / 2 ^ 32) (2 ^ 48))
      ∙ ap (λ (n : ℕ). n % 2 ^ 48) (omega (arith, div-add-mod' p (2 ^ 32), div-add-mod' q (2 ^ 16)))
      ∙ add-mod (u * 2 ^ 32 + m * 2 ^ 16 + l + f * E) (p * 2 ^ 16 + q) (2 ^ 48)
      ∙ ap (λ (n : ℕ). (held u m l f + n) % 2 ^ 48) (sym parts)

-- ---- rounding

module _ (u m l f : ℕ) where
  -- the sum divided by 4096, modulo 2 ^ 32
  abbrev quotient : ℕ
  quotient = u * 2 ^ 20 + m * 2 ^ 4 + l / 2 ^ 12 + f * (2 ^ 36 - 2 ^ 19)

  held-quotient : held u m l f / 2 ^ 12 % 2 ^ 32 ≡ quotient % 2 ^ 32
  held-quotient =
      ap (λ (n : ℕ). n % 2 ^ 32) (field (u * 2 ^ 32 + m * 2 ^ 16 + l + f * E) 36 12)
      ∙ mod-mod-pow ((u * 2 ^ 32 + m * 2 ^ 16 + l + f * E) / 2 ^ 12) 4 32
      ∙ ap (λ (n : ℕ). n % 2 ^ 32)
      (ap (λ (n : ℕ). n / 2 ^ 12) (omega arith)
      ∙ add-mul-div_right l (u * 2 ^ 20 + m * 2 ^ 4 + f * (2 ^ 36 - 2 ^ 19)) (lit< tt) ∙ omega arith)

  -- what the code makes of the parts: r, to which f * 2 ^ 19 wraps back
  pub rounds : (r : ℕ)
      → (r + (f * 2 ^ 19) % 2 ^ 32) % 2 ^ 32 ≡ ((u * 2 ^ 20) % 2 ^ 32 + (m * 2 ^ 4) % 2 ^ 32 + l / 2 ^ 12) % 2 ^ 32
      → r % 2 ^ 32 ≡ held u m l f / 2 ^ 12 % 2 ^ 32
  rounds r e =
      sym (add-mul-mod_self_right r (f * 2 ^ 4) (2 ^ 32))
      ∙ ap (λ (n : ℕ). n % 2 ^ 32) (omega arith)
      ∙ sym (back r (f * 2 ^ 19) g)
      ∙ ap (λ (n : ℕ). (n + g) % 2 ^ 32) e
      ∙ both (u * 2 ^ 20) (m * 2 ^ 4) (l / 2 ^ 12) g
      ∙ sym held-quotient
    where
      g : ℕ
      g = f * (2 ^ 36 - 2 ^ 19)

      back : (i j k : ℕ) → ((i + j % 2 ^ 32) % 2 ^ 32 + k) % 2 ^ 32 ≡ (i + j + k) % 2 ^ 32
      back i j k = simp (mod-add-mod, add-mod-mod)

      both : (i j k n : ℕ)
          → ((i % 2 ^ 32 + j % 2 ^ 32 + k) % 2 ^ 32 + n) % 2 ^ 32 ≡ (i + j + k + n) % 2 ^ 32
      both i j k n =
          mod-add-mod (i % 2 ^ 32 + j % 2 ^ 32 + k) (2 ^ 32) n
          ∙ sym (add-mul-mod_self_right (i % 2 ^ 32 + j % 2 ^ 32 + k + n) (i / 2 ^ 32 + j / 2 ^ 32) (2 ^ 32))
          ∙ ap (λ (s : ℕ). s % 2 ^ 32) (omega (arith, div-add-mod' i (2 ^ 32), div-add-mod' j (2 ^ 32)))
