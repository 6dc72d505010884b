-- Laws of what is an input.
use mathlib.Core.Bool.{true, and-eq-true_iff}
use mathlib.Core.List.{List}
use mathlib.Core.Path.{◌≡◌, ap, ◌∙◌}
use Prim.Native.Nat.{ℕ, ◌/◌, ◌%◌, ◌≤◌}
use native.Mathlib.Omega.{arith}
use lib.Dec.{leb, eqb}
use lib.ListN.{length, take, length-take}
use lib.Seq.{take_all}
use borrow.Author.Tests.{leb-true, eqb-true}
use Rattle.words.specs.Words.{words_of, over}
use Rattle.words.proofs.Over.{take-over}
use Rattle.words.proofs.Words.{length-words_of}
use Rattle.stream.specs.declared.Form.{Form}
use Rattle.stream.specs.declared.Form.TheVariants.{Packed, Log}
use Rattle.stream.specs.Input.{most_words, most_bytes, item_size, is_input}

module _ (form : Form) (size : ℕ) (h : is_input form size ≡ true) where
  -- it has no more bytes than the longest list
  pub input-fits : size ≤ most_bytes
  unfolding is_input
  input-fits = leb-true size most_bytes ((and-eq-true_iff (eqb (size % item_size form) 0) (leb size most_bytes)).0 h).1

  items : size % item_size form ≡ 0
  unfolding is_input
  items = eqb-true (size % item_size form) 0 ((and-eq-true_iff (eqb (size % item_size form) 0) (leb size most_bytes)).0 h).0

-- it is whole words
pub input-whole : (form : Form) (size : ℕ) → is_input form size ≡ true → size % 4 ≡ 0
input-whole Log size h = omega (arith, items Log size h)
input-whole Packed size h = items Packed size h

-- An input that was read into a buffer, which then is `new`
pub record InputRead (form : Form) (input new : List ℕ) : Type 0 where
  pub is-input : is_input form (length input) ≡ true
  pub few : length input / 4 ≤ most_words
  pub words : take (length input / 4) new ≡ words_of input
  pub lent : length (take (length input / 4) new) ≡ length input / 4
  pub within : length input / 4 ≤ length new

-- from what `read_words` leaves in a buffer for the longest list
pub input-read : (form : Form) (input old new : List ℕ) → is_input form (length input) ≡ true → length old ≡ most_words
    → new ≡ over (take (length old) (words_of input)) old → InputRead form input new
input-read form input old new is long e =
    let fits = input-fits form (length input) is in
    let all : take (length old) (words_of input) ≡ words_of input =
    take_all (length old) (words_of input) (omega (arith, length-words_of input)) in
    let words : take (length input / 4) new ≡ words_of input =
    rw (e, all, ← length-words_of input) (take-over (words_of input) old) in
    let lent : length (take (length input / 4) new) ≡ length input / 4 = ap length words ∙ length-words_of input in
    record {
      is-input = is;
      few = omega arith;
      words = words;
      lent = lent;
      within = omega (arith, lent, length-take (length input / 4) new);
    }
