-- Text put into a buffer piece by piece.
use mathlib.Core.List.{List, [], ◌++◌, append_assoc}
use mathlib.Core.Path.{◌≡◌, refl, sym, ap, ◌∙◌}
use Prim.Native.Nat.{ℕ, ◌+◌, ◌-◌, ◌≤◌}
use native.Mathlib.Nat.{add_assoc, add-zero, zero-add}
use native.Mathlib.Omega.{arith}
use lib.ListN.{length, length-append}
use lib.Seq.{sets, sets-eq, length-sets, length-take-le, drop-drop}
use borrow.Rule.Slice.PartMut.{put_mid}
use Rattle.std.specs.Borrow.{MutBor}
use Rattle.io.specs.Counts.{IsPrefixLen}
use Rattle.words.specs.Words.{over}
use Rattle.words.proofs.Over.{sets-append, sets_over}
use Rattle.listing.specs.declared.Text.{Text}
use Rattle.listing.specs.Buffer.{empty_text, with_bytes}
use Rattle.listing.proofs.NumberLaws.{length-decimal, length-hex, decimal-written, hex-digits}
use Rattle.listing.proofs.LineLaws.{lines-append, length-write_line, length-word_line, length-number_line}
use Rattle.listing.proofs.LineLaws.{length-write_lines, length-word_lines, length-refused_line, length-pair_lines}
use Rattle.listing.proofs.LineLaws.{lines-of-pairs}
use Rattle.stream.proofs.UnpackLaws.{length-writes}

-- bytes stored by `copy_from_slice` in the part from a place on
pub stored : (l bytes new : List ℕ) (at : ℕ) → at + length bytes ≤ length l → new ≡ bytes
    → put_mid at (at + length bytes - at) l new ≡ sets l at bytes
stored l bytes new at h e =
    let size : at + length bytes - at ≡ length bytes = omega arith in
    rw (e, sets-eq bytes l at h, size, drop-drop, append_assoc)

module _ (text : Text) where
  -- the buffer is the one that was lent
  pub same_buffer : (bytes : List ℕ) → (with_bytes text bytes).buffer.ghost_name ≡ text.buffer.ghost_name
  unfolding with_bytes
  same_buffer bytes = refl

  pub length-with_bytes : (bytes : List ℕ) → (with_bytes text bytes).length ≡ text.length + length bytes
  unfolding with_bytes
  length-with_bytes bytes = refl

  pub length-buffer : (bytes : List ℕ) → length (with_bytes text bytes).buffer.now ≡ length text.buffer.now
  unfolding with_bytes
  length-buffer bytes = length-sets text.buffer.now text.length bytes

  -- bytes put behind others
  pub with_bytes-twice : (xs ys : List ℕ) → with_bytes (with_bytes text xs) ys ≡ with_bytes text (xs ++ ys)
  unfolding with_bytes
  with_bytes-twice xs ys = rw (sets-append text.buffer.now text.length xs ys, length-append xs ys, add_assoc)

  -- no bytes
  pub with_bytes-none : with_bytes text [] ≡ text
  unfolding with_bytes
  with_bytes-none = rw add-zero

-- a put keeps the buffer's length
pub puts_kept : (a : Text) (xs : List ℕ) {b : Text} → b ≡ with_bytes a xs → length b.buffer.now ≡ length a.buffer.now
puts_kept a xs p = rw p (length-buffer a xs)

-- two puts, one behind the other, are one put of both
pub puts_both : (a : Text) (xs ys : List ℕ) {b c : Text} → b ≡ with_bytes a xs → c ≡ with_bytes b ys
    → c ≡ with_bytes a (xs ++ ys)
puts_both a xs ys p q = q ∙ rw p (with_bytes-twice a xs ys)

-- the text is a report, put into a buffer that held `old`
pub record Reported (report old : List ℕ) (text : Text) : Type 0 where
  pub count : text.length ≡ length report
  pub bytes : text.buffer.now ≡ over report old
  pub prefix : IsPrefixLen text.length text.buffer.now

pub reported : (buffer : MutBor (List ℕ)) (report : List ℕ) (n : ℕ) {start text : Text}
    → start ≡ empty_text buffer → text ≡ with_bytes start report
    → text.length ≤ start.length + n → n ≤ length buffer.now → Reported report buffer.now text
unfolding with_bytes
reported buffer report n {start} {text} s p h g =
    let put : text ≡ with_bytes (empty_text buffer) report = rw s at p in
    let count : text.length ≡ length report = rw put (zero-add (length report)) in
    let long : text.length ≤ length buffer.now = omega (arith, ap (λ (t : Text). t.length) s) in
    let fits : text.length ≤ length text.buffer.now =
    omega (arith, puts_kept (empty_text buffer) report put) in
    record {
      count = count;
      bytes = rw put (sets_over buffer.now report (omega (arith, count)));
      prefix = (fits, sym (length-take-le text.length text.buffer.now fits));
    }

pub ruleset put_rules = (
  same_buffer,
  length-with_bytes,
  length-buffer,
  with_bytes-twice,
  with_bytes-none,
  length-decimal,
  length-hex,
  decimal-written,
  hex-digits,
  lines-append,
  length-write_line,
  length-word_line,
  length-number_line,
  length-write_lines,
  length-word_lines,
  length-refused_line,
  length-pair_lines,
  lines-of-pairs,
  length-writes,
)
