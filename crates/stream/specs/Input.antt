-- Which bytes are an input: document 01, "Numbers a call can refuse with".
use Rattle.std.specs.Prelude.{Bool, ◌&&◌, ℕ, ◌*◌, ◌%◌, leb, eqb}
use Rattle.stream.specs.declared.Form.{Form}
use Rattle.stream.specs.declared.Form.TheVariants.{Packed, Log}

-- how many words a log or a list has at most: 7, "log of odd length or over 8,192 words; list over 8,192 words"; 9,
-- "packed list would pass 8,192 words"
abbrev pub most_words : ℕ
most_words = 8192

-- and how many bytes
abbrev pub most_bytes : ℕ
most_bytes = 4 * most_words

-- how many words the log of a list has at most: "A list can give up to 16,384 pairs"
abbrev pub longest_log : ℕ
longest_log = 4 * most_words

-- how many bytes an item takes: a packed word is one, a port write two words
abbrev pub item_size : Form → ℕ
item_size Packed = 4
item_size Log = 8

-- so many bytes are an input. 7: "log of odd length or over 8,192 words; list over 8,192 words; byte slice or file not
-- whole words" (reading 23)
unfoldable pub is_input : Form → ℕ → Bool
is_input form size = eqb (size % item_size form) 0 && leb size most_bytes
