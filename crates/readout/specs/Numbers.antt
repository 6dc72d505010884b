-- Signed numbers as text, and numbers in a line.
use Rattle.std.specs.Prelude.{List, [], ◌∷◌, ◌++◌, ℕ, zero, suc, ℤ, pos, negsuc, take, drop}
use Rattle.listing.specs.Text.{ascii, decimal, lines_of}

-- a signed 32-bit number in decimal, a minus sign before a negative one
unfoldable pub signed_text : ℤ → List ℕ
signed_text (pos n) = decimal n
signed_text (negsuc n) = ascii "-" ++ decimal (suc n)

-- a space and a number
unfoldable pub spaced_number : ℤ → List ℕ
spaced_number z = ascii " " ++ signed_text z

-- numbers, a space before each
abbrev pub spaced : List ℤ → List ℕ
spaced = lines_of spaced_number

-- a name, the numbers behind it, and the line's end
unfoldable pub numbers_line : List ℕ → List ℤ → List ℕ
numbers_line name zs = name ++ spaced zs ++ ascii "\n"

-- the first n chunks of k elements each
abbrev pub chunks : {A : Type 0} → ℕ → ℕ → List A → List (List A)
chunks k zero l = []
chunks k (suc n) l = take k l ∷ chunks k n (drop k l)
