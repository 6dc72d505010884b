-- Laws of calls whose input and output are bytes.
use mathlib.Core.Bool.{Bool, true, false}
use mathlib.Core.List.{List, [], ◌++◌, append_assoc}
use mathlib.Core.Path.{◌≡◌, refl, sym, ap, ◌∙◌}
use Prim.Native.Nat.{ℕ, ◌/◌, ◌%◌, ◌≤◌, ◌<◌, min}
use native.Mathlib.Omega.{arith}
use lib.Dec.{leb}
use lib.ListN.{length, take, drop}
use lib.Seq.{take_all, take-append_seam, length-take-le, length_front}
use borrow.Author.Tests.{leb-true, leb-false, eq-eqb, ne_eqb}
use Rattle.std.proofs.lemmas.List.{nil_from_length}
use Rattle.words.specs.Words.{bytes_of, over}
use Rattle.words.proofs.Over.{over_none}
use Rattle.stream.specs.declared.Form.{Form}
use Rattle.stream.specs.declared.OutputAnswer.{OutputAnswer}
use Rattle.stream.specs.Output.{Output, refusal, on_bytes, answer_of, Stores}
use Rattle.stream.proofs.OutputLaws.{on-bytes-fits}
use Rattle.conversions.specs.Convert.{convert, longest_output}
use Rattle.conversions.proofs.ConvertLaws.{fits, capped}
use Rattle.nauvelppi.specs.Bytes.{on_all_bytes, StoresBytes}

-- an output that is not whole words is refused, and stores nothing
pub refused-output : (f : ℕ → List ℕ → Output) (input old : List ℕ) (r : OutputAnswer) → (length old % 4 ≡ 0 → ⊥)
    → r ≡ answer_of (refusal 7 0) → StoresBytes (on_all_bytes f (length old) input) r old old
unfolding on_all_bytes bytes_of
refused-output f input old r d e =
    rw (ne_eqb (length old % 4) 0 d) (record { answer = e; buffer = sym (over_none old) })

-- what a call stored, read back from the buffer that was lent to it and what lies behind that
stored : {o : Output} {r : OutputAnswer} {old new : List ℕ} (rest : List ℕ) → Stores o r old new
    → take r.length (new ++ rest) ≡ o.words
unfolding over
stored {o} {r} {old} {new} rest s =
    rw (ap (λ (x : OutputAnswer). x.length) s.answer, s.buffer, append_assoc)
    (take-append_seam o.words (drop (length o.words) old ++ rest))

-- A call for an output of `size` bytes, made on the first n words of a buffer for the longest output: its answer r, and
-- `part`, which these words then are
pub record Made (form : Form) (size : ℕ) (input buffer part : List ℕ) (n : ℕ) (r : OutputAnswer) : Type 0 where
  pub whole : size % 4 ≡ 0
  pub capacity : n ≡ min (size / 4) (length buffer)
  pub long : length buffer ≡ longest_output form
  pub stores : Stores (on_bytes (convert form (length (take n buffer))) input) r (take n buffer) part
  pub kept : length part ≡ length (take n buffer)

module _ {form : Form} {size : ℕ} {input buffer part : List ℕ} {n : ℕ} {r : OutputAnswer}
    (m : Made form size input buffer part n r) where
  stores-n : Stores (on_bytes (convert form n) input) r (take n buffer) part
  stores-n = rw (length-take-le n buffer (omega (arith, m.capacity))) at m.stores

  -- the words that are then written as bytes
  words-lent : take r.length (part ++ drop n buffer) ≡ (on_bytes (convert form n) input).words
  words-lent = stored (drop n buffer) stores-n

  words-fit : length (on_bytes (convert form n) input).words ≤ n
  words-fit = on-bytes-fits (convert form n) n (fits form n) input

  -- they are a part of the buffer
  pub length-fits : r.length ≤ length (part ++ drop n buffer)
  length-fits =
      omega (
        arith,
        words-fit,
        ap (λ (x : OutputAnswer). x.length) stores-n.answer,
        m.capacity,
        length_front buffer part n m.kept,
      )

  -- the call of the output's own capacity
  same : (l : List ℕ) → convert form n l ≡ convert form (size / 4) l
  same l =
      by (leb (longest_output form) (size / 4)) (leb-true (longest_output form) (size / 4))
      (leb-false (longest_output form) (size / 4))
    where
      by : (t : Bool) → (t ≡ true → longest_output form ≤ size / 4) → (t ≡ false → size / 4 < longest_output form)
          → convert form n l ≡ convert form (size / 4) l
      by true le gt =
          let h = le refl in
          let e : n ≡ longest_output form = omega (arith, m.capacity, m.long) in
          rw e (sym (capped form (size / 4) l h))
      by false le gt =
          let h = gt refl in
          let e : n ≡ size / 4 = omega (arith, m.capacity, m.long) in
          rw e

  output-is : on_bytes (convert form n) input ≡ on_all_bytes (convert form) size input
  unfolding on_all_bytes on_bytes
  output-is = rw (eq-eqb (size % 4) 0 m.whole, same)

  pub stores-bytes : {old new : List ℕ} → length old ≡ size
      → new ≡ over (bytes_of (take (length old / 4) (take r.length (part ++ drop n buffer)))) old
      → StoresBytes (on_all_bytes (convert form) size input) r old new
  stores-bytes {old} {new} e q =
      let words : List ℕ = (on_bytes (convert form n) input).words in
      let all : take (length old / 4) words ≡ words =
      take_all (length old / 4) words (omega (arith, words-fit, e, m.capacity)) in
      rw (← output-is)
      (record { answer = stores-n.answer; buffer = q ∙ rw (words-lent, all) })

  -- a refusal stores nothing
  pub stores-no-bytes : r.length ≡ 0 → (old : List ℕ) → StoresBytes (on_all_bytes (convert form) size input) r old old
  unfolding bytes_of
  stores-no-bytes z old =
      let words : List ℕ = (on_bytes (convert form n) input).words in
      let none : words ≡ [] =
      nil_from_length words (omega (arith, z, ap (λ (x : OutputAnswer). x.length) stores-n.answer)) in
      rw (← output-is) (record { answer = stores-n.answer; buffer = rw none (sym (over_none old)) })
