-- Laws of packing and unpacking, over the form of the input.
use mathlib.Core.Bool.{Bool, true, false}
use mathlib.Core.List.{List}
use mathlib.Core.Path.{◌≡◌, refl, ◌∙◌}
use Prim.Native.Nat.{ℕ, ◌%◌, ◌≤◌}
use native.Mathlib.Omega.{arith}
use lib.Dec.{leb, eqb}
use lib.ListN.{length}
use borrow.Author.Tests.{eqb-true, eqb-false, eq-eqb, leb-false}
use Rattle.words.specs.Words.{words_of}
use Rattle.words.proofs.Words.{length-words_of}
use Rattle.stream.specs.declared.Form.{Form}
use Rattle.stream.specs.declared.Form.TheVariants.{Packed, Log}
use Rattle.stream.specs.Input.{most_bytes, is_input}
use Rattle.stream.specs.Output.{refusal, on_bytes}
use Rattle.stream.proofs.InputLaws.{input-whole}
use Rattle.stream.proofs.OutputLaws.{not-whole-words, whole_words}
use Rattle.packer.proofs.CallLaws.{log_odd, log_long}
use Rattle.packer.proofs.Capacity.{pack-fits, pack-capped}
use Rattle.unpacker.proofs.CallLaws.{too_long}
use Rattle.unpacker.proofs.Capacity.{unpack-fits, unpack-capped}
use Rattle.conversions.specs.Convert.{convert, longest_output}

-- what is stored fits the output
pub fits : (form : Form) (capacity : ℕ) (l : List ℕ) → length (convert form capacity l).words ≤ capacity
fits Log = pack-fits
fits Packed = unpack-fits 0

-- an output that is longer than the longest makes no difference
pub capped : (form : Form) (capacity : ℕ) (l : List ℕ) → longest_output form ≤ capacity
    → convert form capacity l ≡ convert form (longest_output form) l
capped Log = pack-capped
capped Packed = unpack-capped 0

-- ---- an input that is given as bytes

-- whole words that are no input are refused with 7
words-refused : (form : Form) (capacity : ℕ) (input : List ℕ) → length input % 4 ≡ 0
    → is_input form (length input) ≡ false → convert form capacity (words_of input) ≡ refusal 7 0
unfolding is_input
words-refused Packed capacity input w h =
    let long : leb (length input) most_bytes ≡ false = rw (eq-eqb (length input % 4) 0 w) at h in
    too_long 0 capacity (words_of input) (omega (arith, length-words_of input, leb-false (length input) most_bytes long))
words-refused Log capacity input w h = by (eqb (length input % 8) 0) refl
  where
    by : (t : Bool) → eqb (length input % 8) 0 ≡ t → convert Log capacity (words_of input) ≡ refusal 7 0
    by true e =
        let long : leb (length input) most_bytes ≡ false = rw e at h in
        log_long capacity (words_of input) (omega (arith, length-words_of input, leb-false (length input) most_bytes long))
    by false e =
        let d = eqb-false (length input % 8) 0 e in
        log_odd capacity (words_of input) (omega (arith, length-words_of input, d))

module _ (form : Form) (capacity : ℕ) (input : List ℕ) where
  -- what is no input is refused with 7
  pub input-refused : is_input form (length input) ≡ false → on_bytes (convert form capacity) input ≡ refusal 7 0
  input-refused h = by (eqb (length input % 4) 0) refl
    where
      by : (t : Bool) → eqb (length input % 4) 0 ≡ t → on_bytes (convert form capacity) input ≡ refusal 7 0
      by true e =
          let w = eqb-true (length input % 4) 0 e in
          whole_words (convert form capacity) input w ∙ words-refused form capacity input w h
      by false e = not-whole-words (convert form capacity) input (eqb-false (length input % 4) 0 e)

  -- an input is converted as its words are
  pub input_converted : is_input form (length input) ≡ true
      → on_bytes (convert form capacity) input ≡ convert form capacity (words_of input)
  input_converted h = whole_words (convert form capacity) input (input-whole form (length input) h)
