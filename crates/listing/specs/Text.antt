-- The text of the programs, as ASCII bytes: numbers and lines. Document 01, "Packer and unpacker": "Hex is lower case."
use Rattle.std.specs.Prelude.{cond, List, [], ◌∷◌, ◌++◌, ℕ, zero, suc, ◌+◌, ◌/◌, ◌%◌, ltb, length}
use Prim.Native.Char.{code}
use Prim.Native.String.{String, ◌∷◌ as ◌then◌, [] as no-character}
use Rattle.io.specs.Digits.{last_digits}
use Rattle.stream.specs.Command.{Write}

-- the codes of a text's characters
abbrev pub ascii : String → List ℕ
ascii no-character = []
ascii (c then s) = code c ∷ ascii s

-- the digits of a number below 10 ^ k, none of them a leading zero
abbrev pub decimal_in : ℕ → ℕ → List ℕ
decimal_in zero n = []
decimal_in (suc k) n = cond (ltb n 10) ((48 + n) ∷ []) (decimal_in k (n / 10) ++ ((48 + n % 10) ∷ []))

-- a 32-bit number in decimal
unfoldable pub decimal : ℕ → List ℕ
decimal n = decimal_in 10 n

-- a 32-bit number as eight hex digits in lower case
unfoldable pub hex8 : ℕ → List ℕ
hex8 n = last_digits 16 8 n

-- "04000440 00000002": address and value of a port write, and the line's end
unfoldable pub write_line : Write → List ℕ
write_line w = hex8 w.address ++ ascii " " ++ hex8 w.value ++ ascii "\n"

-- "00001510": a word, and the line's end
unfoldable pub word_line : ℕ → List ℕ
word_line w = hex8 w ++ ascii "\n"

-- the line of each of some elements
abbrev pub lines_of : {A : Type 0} → (A → List ℕ) → List A → List ℕ
lines_of line [] = []
lines_of line (x ∷ xs) = line x ++ lines_of line xs

abbrev pub write_lines : List Write → List ℕ
write_lines = lines_of write_line

abbrev pub word_lines : List ℕ → List ℕ
word_lines = lines_of word_line

-- a name with the space behind it, a number in decimal, and the line's end
unfoldable pub number_line : List ℕ → ℕ → List ℕ
number_line name n = name ++ decimal n ++ ascii "\n"

-- "ports 2", and a line for each port write
unfoldable pub ports_text : List Write → List ℕ
ports_text ws = number_line (ascii "ports ") (length ws) ++ write_lines ws

-- what the program `pack` prints for a log that it accepts: "words 3", and a line for each word
unfoldable pub words_text : List ℕ → List ℕ
words_text ws = number_line (ascii "words ") (length ws) ++ word_lines ws

-- document 01: "A refusal prints one line instead, number and place in decimal, as `refused 3 0`."
unfoldable pub refused_line : ℕ → ℕ → List ℕ
refused_line number place = ascii "refused " ++ decimal number ++ ascii " " ++ decimal place ++ ascii "\n"
