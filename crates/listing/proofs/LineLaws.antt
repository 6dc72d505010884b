-- The lines of port writes and of words, and how long each text of the programs is.
use mathlib.Core.List.{List, [], ◌∷◌, ◌++◌, append_assoc}
use mathlib.Core.Path.{◌≡◌, refl}
use Prim.Native.Nat.{ℕ, suc, ◌+◌, ◌*◌, ◌/◌, ◌≤◌}
use native.Mathlib.Omega.{arith}
use lib.ListN.{length, get_or, length-append}
use Rattle.std.specs.Simd.{first_chunks}
use Rattle.stream.specs.Command.{Write, write}
use Rattle.stream.specs.Read.{writes}
use Rattle.listing.specs.Text.{ascii, write_line, word_line, lines_of, write_lines, word_lines, number_line}
use Rattle.listing.specs.Text.{ports_text, words_text, refused_line}
use Rattle.listing.proofs.NumberLaws.{length-hex, length-decimal}

-- a line for each of some elements
module _ {A : Type 0} (line : A → List ℕ) where
  pub lines-append : (xs ys : List A) → lines_of line (xs ++ ys) ≡ lines_of line xs ++ lines_of line ys
  lines-append [] ys = refl
  lines-append (x ∷ xs) ys = rw (lines-append xs ys, append_assoc)

  -- lines of one length
  pub length-lines : (k : ℕ) → ((x : A) → length (line x) ≡ k) → (xs : List A)
      → length (lines_of line xs) ≡ k * length xs
  length-lines k e [] = omega arith
  length-lines k e (x ∷ xs) =
      omega (arith, length-append (line x) (lines_of line xs), e x, length-lines k e xs)

pub length-write_line : (w : Write) → length (write_line w) ≡ 18
unfolding write_line
length-write_line w = simp length-append (omega (arith, length-hex w.address, length-hex w.value))

pub length-word_line : (w : ℕ) → length (word_line w) ≡ 9
unfolding word_line
length-word_line w = simp length-append (omega (arith, length-hex w))

pub length-number_line : (name : List ℕ) (n : ℕ) → length (number_line name n) ≤ length name + 11
unfolding number_line
length-number_line name n = simp length-append (omega (arith, length-decimal n))

pub length-write_lines : (ws : List Write) → length (write_lines ws) ≡ 18 * length ws
length-write_lines ws = length-lines write_line 18 length-write_line ws

pub length-word_lines : (ws : List ℕ) → length (word_lines ws) ≡ 9 * length ws
length-word_lines ws = length-lines word_line 9 length-word_line ws

pub length-ports_text : (ws : List Write) → length (ports_text ws) ≤ 17 + 18 * length ws
unfolding ports_text
length-ports_text ws =
    let first = number_line (ascii "ports ") (length ws) in
    omega (
      arith,
      length-append first (write_lines ws),
      length-number_line (ascii "ports ") (length ws),
      length-write_lines ws,
    )

pub length-words_text : (ws : List ℕ) → length (words_text ws) ≤ 17 + 9 * length ws
unfolding words_text
length-words_text ws =
    let first = number_line (ascii "words ") (length ws) in
    omega (
      arith,
      length-append first (word_lines ws),
      length-number_line (ascii "words ") (length ws),
      length-word_lines ws,
    )

pub length-refused_line : (number place : ℕ) → length (refused_line number place) ≤ 30
unfolding refused_line
length-refused_line number place = simp length-append (omega (arith, length-decimal number, length-decimal place))

-- ---- a log's writes, from its words two by two

-- the line of two words
abbrev pub pair_line : List ℕ → List ℕ
pair_line pair = write_line (write (get_or pair 0 0) (get_or pair 1 0))

pub length-pair_lines : (pairs : List (List ℕ)) → length (lines_of pair_line pairs) ≡ 18 * length pairs
length-pair_lines pairs = length-lines pair_line 18 (λ pair. length-write_line (write (get_or pair 0 0) (get_or pair 1 0))) pairs

pub lines-of-pairs : (log : List ℕ) → write_lines (writes log) ≡ lines_of pair_line (first_chunks 2 (length log / 2) log)
lines-of-pairs [] = refl
lines-of-pairs (a ∷ []) = refl
lines-of-pairs (a ∷ v ∷ log) =
    let more : suc (suc (length log)) / 2 ≡ suc (length log / 2) = omega arith in
    rw (more, lines-of-pairs log)
