-- How many words the commands of a command word take, and how many port writes they are.
use mathlib.Core.Bool.{Bool, true, false, cond}
use mathlib.Core.List.{List, [], ◌∷◌}
use mathlib.Core.Path.{◌≡◌, refl, sym, ap, ◌∙◌}
use mir.Syntax.{w32}
use Prim.Native.Nat.{ℕ, ◌+◌, ◌*◌, ◌≤◌}
use native.Mathlib.Omega.{arith}
use lib.Dec.{eqb}
use lib.ListN.{length, take, drop, length-drop}
use lib.Seq.{length-take-le}
use Rattle.commands.specs.Commands.{known, count, port, command_bytes, hole}
use Rattle.commands.proofs.Table.{count_small}
use Rattle.commands.proofs.Commands.{counted-unknown}
use Rattle.std.specs.Prelude.{Some, None}
use Rattle.std.specs.Int.{to_le_bytes}
use Rattle.stream.specs.Pending.{commands_of}
use Rattle.stream.specs.Command.{takes_none, command}
use Rattle.stream.specs.Pack.{count_if}
use Rattle.stream.specs.Unpack.{writes_for, commands_log}
use Rattle.stream.proofs.CommandLaws.{takes_some_count, none-by-count}
use Rattle.stream.proofs.PendingLaws.{unknown-zero}
use Rattle.stream.proofs.StepLaws.{commands-few}
use Rattle.stream.proofs.PackLaws.{one-most}
use Rattle.stream.proofs.UnpackLaws.{length-commands_log, command_log, length_writes_log}
use Rattle.stream.proofs.UnpackLaws.{writes_for_some, writes_for_bounds}
use Rattle.unpacker.specs.declared.Extent.{Extent}
use Rattle.unpacker.specs.Inside.{words_behind, writes_of, extent_of, commands_from}
use Rattle.unpacker.proofs.ByteLaws.{commands_in, holed, any_known, word-commands, word-hole, commands-first, hole-behind}
use Rattle.unpacker.proofs.ByteLaws.{known-first, hole-of-unknown, any-of-unknown, none_known}

-- ---- the numbers of port writes

pub length-command : (c : ℕ) (ps : List ℕ) → length ps ≡ count c
    → length (commands_log (command c ps ∷ [])) ≡ 2 * writes_for (count c)
unfolding writes_for takes_none
length-command c ps e =
    ap length (command_log c ps)
    ∙ length_writes_log (port c) (cond (takes_none c) (0 ∷ []) ps)
    ∙ ap (λ (n : ℕ). 2 * n) (by (eqb (count c) 0))
  where
    by : (t : Bool) → length (cond t (0 ∷ []) ps) ≡ cond t 1 (count c)
    by true = refl
    by false = e

pub length-commands : (b : Bool) (q l : List ℕ) → words_behind b q ≤ length l
    → length (commands_log (commands_from q l)) ≡ 2 * writes_of q
unfolding commands_log
length-commands b [] l h = refl
length-commands b (c ∷ q) l h =
    omega (
      arith,
      length-commands_log (command c (take (count c) l) ∷ []) (commands_from q (drop (count c) l)),
      length-command c (take (count c) l) (length-take-le (count c) l (omega arith)),
      length-commands (takes_none c) q (drop (count c) l) (omega (arith, length-drop (count c) l)),
    )

-- ---- bounds

words-few : (b : Bool) (q : List ℕ) → words_behind b q ≤ 32 * length q + 1
words-few b [] = omega (arith, one-most b)
words-few b (c ∷ q) = omega (arith, words-few (takes_none c) q, count_small c)

writes-few : (q : List ℕ) → writes_of q ≤ 33 * length q
writes-few [] = omega arith
writes-few (c ∷ q) = omega (arith, writes-few q, count_small c, writes_for_bounds (count c))

pub extent_small : (w : ℕ) → (words_behind false (commands_of w) ≤ 129) × (writes_of (commands_of w) ≤ 132)
extent_small w = (
  omega (arith, words-few false (commands_of w), commands-few w),
  omega (arith, writes-few (commands_of w), commands-few w),
)

-- the last command has a word behind the command word, a parameter or the dummy
writes-some : (b : Bool) (c : ℕ) (q : List ℕ)
    → (writes_of (c ∷ q) + 1 ≤ words_behind b (c ∷ q) + length (c ∷ q)) × (1 ≤ words_behind b (c ∷ q))
writes-some b c [] = by (takes_none c) refl
  where
    by : (t : Bool) → takes_none c ≡ t
        → (writes_for (count c) + 0 + 1 ≤ count c + count_if t 0 + 1) × (1 ≤ count c + count_if t 0)
    by true e = (omega (arith, writes_for_bounds (count c)), omega arith)
    by false e = (omega (arith, writes_for_some (count c) (takes_some_count c e)), omega (arith, takes_some_count c e))
writes-some b c (d ∷ q) =
    let ih = writes-some (takes_none c) d q in
    (omega (arith, ih.0, writes_for_bounds (count c)), omega (arith, ih.1))

-- at most two port writes for each word, the command word among them
pub writes-by-words : (w : ℕ) → writes_of (commands_of w) ≤ 2 * (1 + words_behind false (commands_of w))
writes-by-words w = few (commands_of w) (commands-few w)
  where
    few : (q : List ℕ) → length q ≤ 4 → writes_of q ≤ 2 * (1 + words_behind false q)
    few [] h = omega arith
    few (c ∷ q) h = omega (arith, writes-some false c q)

-- ---- the commands of a command word byte by byte

-- the bytes `rest` are to come; the commands before them take so much, the last of them no parameter where `dummy`
-- holds; where `ended` holds, a byte before them is no command
pub record Extending (w : ℕ) (rest : List ℕ) (words writes : ℕ) (dummy ended : Bool) : Type 0 where
  pub same-hole : cond ended (any_known rest) (holed rest) ≡ hole (command_bytes w)
  pub words-is : hole (command_bytes w) ≡ false
      → words + words_behind dummy (commands_in rest) ≡ words_behind false (commands_of w)
  pub writes-is : hole (command_bytes w) ≡ false → writes + writes_of (commands_in rest) ≡ writes_of (commands_of w)

pub extent_start : (w : ℕ) → Extending w (to_le_bytes w32 w) 0 0 false false
extent_start w = record {
  same-hole = word-hole w;
  words-is = λ h. omega (arith, ap (words_behind false) (word-commands w));
  writes-is = λ h. omega (arith, ap writes_of (word-commands w));
}

module _ {w b : ℕ} {rest : List ℕ} {words writes : ℕ} {dummy ended : Bool}
    (s : Extending w (b ∷ rest) words writes dummy ended) where
  -- a byte that is no command
  pub extent_ended : known b ≡ false → Extending w rest words writes dummy true
  extent_ended k = record {
    same-hole = same;
    words-is = λ h. omega (arith, s.words-is h, ap (words_behind dummy) (none h));
    writes-is = λ h. omega (arith, s.writes-is h, ap writes_of (none h));
  }
    where
      same : any_known rest ≡ hole (command_bytes w)
      same = sym (by ended) ∙ s.same-hole
        where
          by : (t : Bool) → cond t (any_known (b ∷ rest)) (holed (b ∷ rest)) ≡ any_known rest
          by true = any-of-unknown b rest k
          by false = hole-of-unknown b rest k

      none : hole (command_bytes w) ≡ false → commands_in (b ∷ rest) ≡ commands_in rest
      none h =
          none_known (b ∷ rest) (any-of-unknown b rest k ∙ same ∙ h) ∙ sym (none_known rest (same ∙ h))

  -- a command behind such a byte
  pub extent_hole : known b ≡ true → ended ≡ true → hole (command_bytes w) ≡ true
  extent_hole k e = sym (rw e at s.same-hole) ∙ known-first b rest k

  -- a command
  pub extent_more : known b ≡ true → ended ≡ false → (n m : ℕ) → n ≡ count b → m ≡ writes_for n
      → Extending w rest (words + n) (writes + m) (eqb n 0) ended
  extent_more k e n m f g =
      let q = commands-first b rest k in
      let t : eqb n 0 ≡ takes_none b = none-by-count b n f in
      record {
        same-hole = rw e (sym (hole-behind b rest k) ∙ rw e at s.same-hole);
        words-is = λ h. rw t (omega (arith, f, s.words-is h, ap (words_behind dummy) q));
        writes-is = λ h. omega (arith, g, ap writes_for f, s.writes-is h, ap writes_of q);
      }

-- at the last
pub extent_end : {w words writes : ℕ} {dummy ended : Bool} → Extending w [] words writes dummy ended → (n : ℕ)
    → n ≡ count_if dummy 0 → Some (record { words = words + n; writes = writes }) ≡ extent_of w
unfolding hole
extent_end {w} {words} {writes} {dummy} {ended} s n e =
    let h : hole (command_bytes w) ≡ false = sym s.same-hole ∙ by ended in
    let a : words + n ≡ words_behind false (commands_of w) = omega (arith, e, s.words-is h) in
    let b : writes ≡ writes_of (commands_of w) = omega (arith, s.writes-is h) in
    rw (h, a, b)
  where
    by : (t : Bool) → cond t (any_known []) (holed []) ≡ false
    by true = refl
    by false = refl

-- ---- what the answer says

pub record Extends (w : ℕ) (r : Extent) : Type 0 where
  pub no_hole : hole (command_bytes w) ≡ false
  pub words : r.words ≡ words_behind false (commands_of w)
  pub writes : r.writes ≡ writes_of (commands_of w)

pub extends : (w : ℕ) (r : Extent) → Some r ≡ extent_of w → Extends w r
extends w r e = by (hole (command_bytes w)) refl
  where
    by : (t : Bool) → hole (command_bytes w) ≡ t → Extends w r
    by true h = let z = rw h at e in absurd (cc)
    by false h =
        let z = rw h at e in
        let q : r ≡ record { words = words_behind false (commands_of w); writes = writes_of (commands_of w) } = cc in
        record { no_hole = h; words = ap (λ (x : Extent). x.words) q; writes = ap (λ (x : Extent). x.writes) q }

pub has-hole : (w : ℕ) → None ≡ extent_of w → hole (command_bytes w) ≡ true
has-hole w e = by (hole (command_bytes w)) refl
  where
    by : (t : Bool) → hole (command_bytes w) ≡ t → t ≡ true
    by true h = refl
    by false h = let z = rw h at e in absurd (cc)

-- ---- a word of 0

pub zero_no_hole : hole (command_bytes 0) ≡ false
unfolding command_bytes hole
zero_no_hole = rw (counted-unknown 0 unknown-zero)
