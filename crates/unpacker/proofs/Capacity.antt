-- How many numbers a list is unpacked to: never more than the output holds, and at most 32,768, so that an output of
-- that length is never too short.
use mathlib.Core.Bool.{Bool, true, false, cond}
use mathlib.Core.List.{List, []}
use mathlib.Core.Logic.{◌⊎◌, inl, inr, ⊎_elim}
use mathlib.Core.Path.{◌≡◌, refl, sym, ap, ◌∙◌}
use Prim.Native.Nat.{ℕ, zero, suc, ◌+◌, ◌-◌, ◌*◌, ◌≤◌, ◌<◌, zero-le}
use native.Mathlib.Omega.{arith}
use lib.Dec.{ltb}
use lib.ListN.{length, get_or, drop, length-drop}
use borrow.Author.Tests.{le-ltb, ltb-true, ltb-false}
use Rattle.commands.specs.Commands.{command_bytes, hole}
use Rattle.stream.specs.Pending.{commands_of}
use Rattle.stream.specs.Command.{Command}
use Rattle.stream.specs.Read.{Read, stopped, commands, list_commands}
use Rattle.stream.specs.Output.{Output, refusal, acceptance, fitted, on_read}
use Rattle.stream.specs.Unpack.{commands_log, unpack_from}
use Rattle.stream.proofs.ReadLaws.{stopped-not, behind-stopped}
use Rattle.stream.proofs.UnpackLaws.{length-commands_log}
use Rattle.stream.proofs.OutputLaws.{fitted-fits}
use Rattle.stream.specs.Input.{most_words, longest_log}
use Rattle.unpacker.specs.Inside.{word_commands, behind_word}
use Rattle.unpacker.proofs.WordLaws.{list_ended, at-hole, at-short, at-complete, GoodWord, good_word}
use Rattle.unpacker.proofs.ExtentLaws.{length-commands, writes-by-words}

-- ---- at most four numbers for each word

-- at the end of the list there are none
none : (l : List ℕ) (i : ℕ) (cs : List Command) → length l ≤ i → list_commands i l ≡ commands cs
    → length (commands_log cs) ≡ 0
unfolding commands_log
none l i cs h e =
    let z : commands cs ≡ commands [] = sym e ∙ list_ended l i h in
    let k : cs ≡ [] = cc in
    rw k

-- the numbers of a command word
word-few : (l : List ℕ) (i : ℕ) (cs : List Command) → GoodWord l i cs
    → length (commands_log (word_commands l i)) + 4 * i ≤ 4 * behind_word l i
unfolding word_commands behind_word
word-few l i cs g =
    omega (
      arith,
      length-commands false (commands_of (get_or l i 0)) (drop (i + 1) l)
          (omega (arith, g.all_there, length-drop (i + 1) l)),
      writes-by-words (get_or l i 0),
    )

-- reading goes on behind the command word
on : (l : List ℕ) (i : ℕ) → i + 1 ≤ behind_word l i
unfolding behind_word
on l i = omega arith

-- by the number n of words that are left
few : (n : ℕ) (l : List ℕ) (i : ℕ) (cs : List Command) → length l ≤ i + n → list_commands i l ≡ commands cs
    → length (commands_log cs) ≤ 4 * (length l - i)
few zero l i cs h e = omega (arith, none l i cs (omega arith) e)
few (suc n) l i cs h e = by (ltb i (length l)) refl (few n l)
  where
    by : (t : Bool) → ltb i (length l) ≡ t
        → ((k : ℕ) (ds : List Command) → length l ≤ k + n → list_commands k l ≡ commands ds
        → length (commands_log ds) ≤ 4 * (length l - k))
        → length (commands_log cs) ≤ 4 * (length l - i)
    by false q ih = omega (arith, none l i cs (ltb-false i (length l) q) e)
    by true q ih =
        let g = good_word l i cs (ltb-true i (length l) q) e in
        omega (
          arith,
          ih (behind_word l i) g.rest.more (omega (arith, on l i)) g.rest.is,
          ap (λ (x : List Command). length (commands_log x)) g.rest.joined,
          length-commands_log (word_commands l i) g.rest.more,
          word-few l i cs g,
          g.all_there,
        )

-- ---- the calls

-- what is stored fits the output
pub unpack-fits : (i capacity : ℕ) (l : List ℕ) → length (unpack_from i capacity l).words ≤ capacity
unfolding unpack_from
unpack-fits i capacity l = by (ltb most_words (length l)) (list_commands i l)
  where
    by : (t : Bool) (r : Read)
        → length (cond t (refusal 7 0) (on_read r (λ cs. fitted capacity (commands_log cs)))).words ≤ capacity
    by true r = zero-le
    by false (stopped n p) = zero-le
    by false (commands cs) = fitted-fits capacity (commands_log cs)

-- an output of 32,768 numbers, 16,384 pairs, or of more is never shorter than needed
pub long-enough : (i capacity : ℕ) (l : List ℕ) → longest_log ≤ capacity
    → unpack_from i capacity l ≡ cond (ltb most_words (length l)) (refusal 7 0)
    (on_read (list_commands i l) (λ cs. acceptance (commands_log cs)))
unfolding unpack_from
long-enough i capacity l h = by (ltb most_words (length l)) refl (list_commands i l) refl
  where
    by : (t : Bool) → ltb most_words (length l) ≡ t → (r : Read) → list_commands i l ≡ r
        → cond t (refusal 7 0) (on_read r (λ cs. fitted capacity (commands_log cs)))
        ≡ cond t (refusal 7 0) (on_read r (λ cs. acceptance (commands_log cs)))
    by true e r q = refl
    by false e (stopped n p) q = refl
    by false e (commands cs) q =
        rw (le-ltb capacity (length (commands_log cs))
        (omega (arith, h, few (length l) l i cs (omega arith) q, ltb-false most_words (length l) e)))

-- so a longer one makes no difference
pub unpack-capped : (i capacity : ℕ) (l : List ℕ) → longest_log ≤ capacity
    → unpack_from i capacity l ≡ unpack_from i longest_log l
unpack-capped i capacity l h = long-enough i capacity l h ∙ sym (long-enough i longest_log l (omega arith))

-- ---- the numbers of an unpacked list

-- reading stops with 3 or with 8; by the number n of words that are left
stops : (n : ℕ) (l : List ℕ) (i m p : ℕ) → length l ≤ i + n → list_commands i l ≡ stopped m p → (m ≡ 3) ⊎ (m ≡ 8)
stops zero l i m p h e = stopped-not (sym e ∙ list_ended l i (omega arith))
stops (suc n) l i m p h e =
    by (ltb i (length l)) refl (hole (command_bytes (get_or l i 0))) refl (ltb (length l) (behind_word l i)) refl
    (stops n l)
  where
    by : (t : Bool) → ltb i (length l) ≡ t → (u : Bool) → hole (command_bytes (get_or l i 0)) ≡ u
        → (v : Bool) → ltb (length l) (behind_word l i) ≡ v
        → ((k m p : ℕ) → length l ≤ k + n → list_commands k l ≡ stopped m p → (m ≡ 3) ⊎ (m ≡ 8)) → (m ≡ 3) ⊎ (m ≡ 8)
    by false a u b v c ih = stopped-not (sym e ∙ list_ended l i (ltb-false i (length l) a))
    by true a true b v c ih =
        let z : stopped m p ≡ stopped 3 i = sym e ∙ at-hole l i (ltb-true i (length l) a) b in inl (cc)
    by true a false b true c ih =
        let s : length l < behind_word l i = ltb-true (length l) (behind_word l i) c in
        let z : stopped m p ≡ stopped 8 i = sym e ∙ at-short l i (ltb-true i (length l) a) b s in inr (cc)
    by true a false b false c ih =
        let s : behind_word l i ≤ length l = ltb-false (length l) (behind_word l i) c in
        let r = at-complete l i (ltb-true i (length l) a) b s in
        ih (behind_word l i) m p (omega (arith, on l i))
        (behind-stopped (word_commands l i) (list_commands (behind_word l i) l) m p (sym r ∙ e))

-- "the program prints them all and never answers 10"
pub never_10 : (i : ℕ) (l : List ℕ) → (unpack_from i longest_log l).number ≡ 10 → ⊥
never_10 i l e =
    by (ltb most_words (length l)) (list_commands i l) refl
    (sym (ap (λ (o : Output). o.number) (long-enough i longest_log l (omega arith))) ∙ e)
  where
    by : (t : Bool) (r : Read) → list_commands i l ≡ r
        → (cond t (refusal 7 0) (on_read r (λ cs. acceptance (commands_log cs)))).number ≡ 10
        → ⊥
    by true r q z = omega arith
    by false (commands cs) q z = omega arith
    by false (stopped m p) q z =
        ⊎_elim (λ a. omega arith) (λ a. omega arith) (stops (length l) l i m p (omega arith) q)
