-- What the arguments of the program `replay` say.
use Rattle.std.specs.Prelude.{Bool, true, false, cond, ◌&&◌, List, [], ◌∷◌, ℕ, ◌+◌, ◌*◌, ◌-◌, eqb, leb, length}
use Rattle.std.specs.Prelude.{Option, Some, None}
use Rattle.listing.specs.Text.{ascii}
use Rattle.stream.specs.declared.Form.{Form}
use Rattle.stream.specs.declared.Form.TheVariants.{Packed, Log}

-- whether two texts have the same bytes
abbrev pub same_bytes : List ℕ → List ℕ → Bool
same_bytes [] [] = true
same_bytes [] (y ∷ ys) = false
same_bytes (x ∷ xs) [] = false
same_bytes (x ∷ xs) (y ∷ ys) = eqb x y && same_bytes xs ys

-- the form of the input that an argument names
unfoldable pub source_of : List ℕ → Option Form
source_of name =
    cond (same_bytes name (ascii "list")) (Some Packed) (cond (same_bytes name (ascii "log")) (Some Log) None)

-- whether a byte is a decimal digit: `0` is 48, `9` is 57
unfoldable pub is_digit : ℕ → Bool
is_digit d = leb 48 d && leb d 57

-- whether each byte is a decimal digit
abbrev pub all_digits : List ℕ → Bool
all_digits [] = true
all_digits (d ∷ ds) = is_digit d && all_digits ds

-- whether a text is one to nine decimal digits (reading 30)
unfoldable pub is_decimal : List ℕ → Bool
is_decimal text = leb 1 (length text) && leb (length text) 9 && all_digits text

-- a number with digits put behind its own
abbrev pub digits_from : ℕ → List ℕ → ℕ
digits_from n [] = n
digits_from n (d ∷ ds) = digits_from (10 * n + (d - 48)) ds

-- the number that digits stand for, the first digit the highest
abbrev pub value_of : List ℕ → ℕ
value_of text = digits_from 0 text

-- the room that an argument gives; 0 is no room
unfoldable pub room_of : List ℕ → ℕ
room_of text = cond (is_decimal text) (value_of text) 0
