-- Signed numbers and lines of numbers: what `itoa` makes of a number, and how long each text is.
use mathlib.Core.List.{List, [], ◌∷◌, ◌++◌}
use mathlib.Core.Path.{◌≡◌, ap}
use Prim.Native.Nat.{ℕ, suc, ◌+◌, ◌*◌, ◌≤◌}
use native.Mathlib.Omega.{arith}
use lib.IntN.{ℤ, pos, negsuc}
use lib.ListN.{length, length-append}
use mir.Syntax.{w32}
use mir.Val.{SFits}
use Rattle.std.specs.Fmt.{signed_decimal}
use Rattle.listing.specs.Text.{ascii, decimal, lines_of}
use Rattle.listing.proofs.NumberLaws.{length-decimal, decimal-written}
use Rattle.listing.specs.declared.Text.{Text}
use Rattle.listing.specs.Buffer.{with_bytes}
use Rattle.listing.proofs.PutLaws.{length-with_bytes}
use Rattle.readout.specs.Numbers.{signed_text, spaced_number, spaced, numbers_line}

-- what `itoa` makes of a signed number
pub signed-written : (z : ℤ) → SFits w32 z → signed_decimal z ≡ signed_text z
unfolding signed_text
signed-written (pos n) f = decimal-written n (omega (arith, f.sfits))
signed-written (negsuc n) f = ap (λ (ds : List ℕ). ascii "-" ++ ds) (decimal-written (suc n) (omega (arith, f.sfits)))

pub length-signed : (z : ℤ) → length (signed_text z) ≤ 11
unfolding signed_text
length-signed (pos n) = omega (arith, length-decimal n)
length-signed (negsuc n) = omega (arith, length-append (ascii "-") (decimal (suc n)), length-decimal (suc n))

pub length-spaced_number : (z : ℤ) → length (spaced_number z) ≤ 12
unfolding spaced_number
length-spaced_number z = omega (arith, length-append (ascii " ") (signed_text z), length-signed z)

-- pieces of at most k bytes each
pub length-pieces : {A : Type 0} (piece : A → List ℕ) (k : ℕ) → ((x : A) → length (piece x) ≤ k) → (xs : List A)
    → length (lines_of piece xs) ≤ k * length xs
length-pieces piece k h [] = omega arith
length-pieces piece k h (x ∷ xs) =
    omega (arith, length-append (piece x) (lines_of piece xs), h x, length-pieces piece k h xs)

pub length-spaced : (zs : List ℤ) → length (spaced zs) ≤ 12 * length zs
length-spaced zs = length-pieces spaced_number 12 length-spaced_number zs

pub length-numbers_line : (name : List ℕ) (zs : List ℤ) → length (numbers_line name zs) ≤ length name + 12 * length zs + 1
unfolding numbers_line
length-numbers_line name zs =
    omega (
      arith,
      length-append (name ++ spaced zs) (ascii "\n"),
      length-append name (spaced zs),
      length-spaced zs,
    )

-- how far such a line reaches
pub numbers_line_end : (a : Text) (name : List ℕ) (zs : List ℤ) {b : Text} → b ≡ with_bytes a (numbers_line name zs)
    → b.length ≤ a.length + (length name + 12 * length zs + 1)
numbers_line_end a name zs p =
    rw p (omega (arith, length-with_bytes a (numbers_line name zs), length-numbers_line name zs))
