-- What a call gives whose input and output are bytes: document 01, "Packer and unpacker can be called from our C editor
-- on byte slices."
use Rattle.std.specs.Prelude.{cond, List, ◌≡◌, ℕ, ◌/◌, ◌%◌, eqb}
use Rattle.words.specs.Words.{bytes_of, over}
use Rattle.stream.specs.declared.OutputAnswer.{OutputAnswer}
use Rattle.stream.specs.Output.{Output, refusal, on_bytes, answer_of}

-- A call f, of a capacity in words, on an output of so many bytes. 7: "byte slice or file not whole words"; the output
-- too, and before everything else (reading 23)
unfoldable pub on_all_bytes : (ℕ → List ℕ → Output) → ℕ → List ℕ → Output
on_all_bytes f size input = cond (eqb (size % 4) 0) (on_bytes (f (size / 4)) input) (refusal 7 0)

-- What such a call promises: its answer r, whose length counts words, and what the output holds, `old` before and `new`
-- after: the bytes of these words from the first on. Document 01: "A refused call changes nothing"; "Success leaves
-- output past the length untouched."
pub record StoresBytes (o : Output) (r : OutputAnswer) (old new : List ℕ) : Type 0 where
  pub answer : r ≡ answer_of o
  pub buffer : new ≡ over (bytes_of o.words) old
