-- What the functions that put text into a buffer ask and promise.
use Rattle.std.specs.Prelude.{List, ℕ, ◌+◌, ◌≤◌, length}
use Rattle.std.specs.Borrow.{MutBor}
use Rattle.std.proofs.lemmas.List.Edits.{sets}
use Rattle.listing.specs.declared.Text.{Text}

-- the buffer has room for n bytes more
abbrev pub HasRoom : Text → ℕ → Type 0
HasRoom text n = text.length + n ≤ length text.buffer.now

-- the text of no bytes in a buffer
abbrev pub empty_text : MutBor (List ℕ) → Text
empty_text buffer = record { buffer = buffer; length = 0 }

-- a text with bytes put behind its own: the buffer is the same one, and holds them from there on
unfoldable pub with_bytes : Text → List ℕ → Text
with_bytes text bytes = record {
  buffer = record text.buffer { now = sets text.buffer.now text.length bytes };
  length = text.length + length bytes;
}
