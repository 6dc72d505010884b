-- A command word of a list, read with the words behind it: refused, or its commands and then the rest of the list.
use mathlib.Core.Bool.{Bool, true, false, cond}
use mathlib.Core.List.{List, [], ◌∷◌, ◌++◌, append_assoc}
use mathlib.Core.Path.{◌≡◌, refl, sym, ap, ◌∙◌}
use Prim.Native.Nat.{ℕ, zero, suc, ◌+◌, ◌≤◌, ◌<◌, zero-le}
use native.Mathlib.Nat.{add-zero, zero-add, suc-add}
use native.Mathlib.Numerals.{add-one, one-add}
use native.Mathlib.Omega.{arith}
use lib.Dec.{ltb}
use lib.ListN.{length, get_or, take, drop, length-drop, drop_of_length-le}
use lib.Seq.{drop-cons, drop-drop}
use borrow.Author.Tests.{lt-ltb, le-ltb, ltb-true, ltb-false}
use Rattle.commands.specs.Commands.{count, command_bytes, hole}
use Rattle.stream.specs.Pending.{idle, queued, commands_of}
use Rattle.stream.specs.Command.{takes_none, Command, command}
use Rattle.stream.specs.Step.{at_once, pending_behind, command_word, parameter_word, word_step}
use Rattle.stream.specs.Read.{Read, stopped, commands, prepend, scan, list_commands}
use Rattle.stream.proofs.CommandLaws.{takes_none-count, takes_some_count}
use Rattle.stream.proofs.StepLaws.{length-snoc}
use Rattle.stream.proofs.ReadLaws.{prepend-none, prepend-append, idle_any, stopped-not, More, behind}
use Rattle.unpacker.specs.Inside.{words_behind, commands_from, word_commands, behind_word}

ltb-suc : (a b : ℕ) → ltb (suc a) (suc b) ≡ ltb a b
ltb-suc a b = by (ltb a b) refl
  where
    by : (t : Bool) → ltb a b ≡ t → ltb (suc a) (suc b) ≡ t
    by true e = lt-ltb (suc a) (suc b) (omega (arith, ltb-true a b e))
    by false e = le-ltb (suc a) (suc b) (omega (arith, ltb-false a b e))

-- ---- the words behind a command word

-- the words l, read from place i on for a command word at p: n of them are its commands', then cs are complete and no
-- command is pending
abbrev Reading : ℕ → List Command → List ℕ → ℕ → ℕ → Read
Reading n cs l i p =
    cond (ltb (length l) n) (stopped 8 p) (prepend cs (scan word_step (drop n l) (i + n) 0 idle))

reading_cons : (n : ℕ) (cs : List Command) (w : ℕ) (l : List ℕ) (i p : ℕ)
    → Reading (suc n) cs (w ∷ l) i p ≡ Reading n cs l (suc i) p
reading_cons n cs w l i p =
    let e : i + suc n ≡ suc i + n = omega arith in
    rw (ltb-suc (length l) n, e)

-- a command in front of what is read, or of a refusal
prepend-cond : (t : Bool) (p : ℕ) (c : Command) (cs : List Command) (r : Read)
    → prepend (c ∷ []) (cond t (stopped 8 p) (prepend cs r)) ≡ cond t (stopped 8 p) (prepend (c ∷ cs) r)
prepend-cond true p c cs r = refl
prepend-cond false p c cs r = prepend-append (c ∷ []) cs r

reading_first : (n : ℕ) (c : Command) (cs : List Command) (l : List ℕ) (i p : ℕ)
    → prepend (c ∷ []) (Reading n cs l i p) ≡ Reading n (c ∷ cs) l i p
reading_first n c cs l i p = prepend-cond (ltb (length l) n) p c cs (scan word_step (drop n l) (i + n) 0 idle)

-- what is read of the commands q, whose turn it is
abbrev Finishes : Bool → List ℕ → ℕ → Type 0
Finishes b q p =
    (l : List ℕ) (i : ℕ) → prepend (at_once q) (scan word_step l i p (pending_behind b q))
    ≡ Reading (words_behind b q) (commands_from q l) l i p

-- m + 1 parameters of the first command are to come
held : (c : ℕ) (q : List ℕ) (p m : ℕ) (h l : List ℕ) (i : ℕ) → length h + suc m ≡ count c → Finishes false q p
    → scan word_step l i p (queued (c ∷ q) h)
    ≡ Reading (suc m + words_behind false q) (command c (h ++ take (suc m) l) ∷ commands_from q (drop (suc m) l)) l i p
unfolding word_step parameter_word
held c q p m h [] i e ih = rw (lt-ltb 0 (suc m + words_behind false q) (omega arith))
held c q p zero h (w ∷ l) i e ih =
    let n : ℕ = words_behind false q in
    let d : Command = command c (h ++ w ∷ []) in
    rw (le-ltb (length (h ++ w ∷ [])) (count c) (omega (arith, length-snoc h w)))
    (sym (prepend-append (d ∷ []) (at_once q) (scan word_step l (suc i) p (pending_behind false q)))
    ∙ ap (prepend (d ∷ [])) (ih l (suc i))
    ∙ reading_first n d (commands_from q l) l (suc i) p
    ∙ sym (rw (one-add (words_behind false q)) (reading_cons n (d ∷ commands_from q l) w l i p)))
held c q p (suc m) h (w ∷ l) i e ih =
    rw (lt-ltb (length (h ++ w ∷ [])) (count c) (omega (arith, length-snoc h w)))
    (prepend-none (scan word_step l (suc i) p (queued (c ∷ q) (h ++ w ∷ [])))
    ∙ held c q p m (h ++ w ∷ []) l (suc i) (omega (arith, length-snoc h w)) ih
    ∙ rw (append_assoc h (w ∷ []) (take (suc m) l), suc-add (suc m) (words_behind false q))
    (sym (reading_cons (suc m + words_behind false q)
    (command c (h ++ w ∷ take (suc m) l) ∷ commands_from q (drop (suc m) l)) w l i p)))

finishes : (q : List ℕ) (b : Bool) (p : ℕ) → Finishes b q p
unfolding word_step
finishes [] false p l i = rw (le-ltb (length l) 0 zero-le, add-zero i, idle_any word_step l i p)
finishes [] true p [] i = refl
finishes [] true p (w ∷ l) i =
    rw (le-ltb (suc (length l)) 1 (omega arith), ← add-one i, idle_any word_step l (i + 1) p)
    (ap (prepend []) (prepend-none (scan word_step l (i + 1) 0 idle)))
finishes (c ∷ q) b p l i = by (takes_none c) refl (finishes q)
  where
    by : (t : Bool) → takes_none c ≡ t → ((b : Bool) (p : ℕ) → Finishes b q p)
        → prepend (cond t (command c [] ∷ at_once q) [])
        (scan word_step l i p (cond t (pending_behind true q) (queued (c ∷ q) [])))
        ≡ Reading (count c + words_behind t q) (command c (take (count c) l) ∷ commands_from q (drop (count c) l)) l i p
    by true e ih =
        rw (takes_none-count c e, zero-add (words_behind true q))
        (sym (prepend-append (command c [] ∷ []) (at_once q) (scan word_step l i p (pending_behind true q)))
        ∙ ap (prepend (command c [] ∷ [])) (ih true p l i)
        ∙ reading_first (words_behind true q) (command c []) (commands_from q l) l i p)
    by false e ih = more (count c) refl
      where
        more : (n : ℕ) → count c ≡ n → prepend [] (scan word_step l i p (queued (c ∷ q) []))
            ≡ Reading (n + words_behind false q) (command c (take n l) ∷ commands_from q (drop n l)) l i p
        more zero z = absurd (omega (arith, takes_some_count c e))
        more (suc m) z =
            prepend-none (scan word_step l i p (queued (c ∷ q) []))
            ∙ held c q p m [] l i (omega arith) (ih false p)

-- ---- a command word at a place of a list

pub list_ended : (l : List ℕ) (i : ℕ) → length l ≤ i → list_commands i l ≡ commands []
unfolding list_commands
list_ended l i h = rw (drop_of_length-le l {i = i} h)

module _ (l : List ℕ) (i : ℕ) (h : i < length l) where
  word-at : drop i l ≡ get_or l i 0 ∷ drop (i + 1) l
  word-at = rw (add-one i) (drop-cons l i 0 h)

  pub at-hole : hole (command_bytes (get_or l i 0)) ≡ true → list_commands i l ≡ stopped 3 i
  unfolding list_commands word_step command_word
  at-hole e = rw (word-at, e)

  module _ (e : hole (command_bytes (get_or l i 0)) ≡ false) where
    at-word : list_commands i l
        ≡ Reading (words_behind false (commands_of (get_or l i 0))) (word_commands l i) (drop (i + 1) l) (i + 1) i
    unfolding list_commands word_step command_word word_commands
    at-word = rw (word-at, e, ← add-one i) (finishes (commands_of (get_or l i 0)) false i (drop (i + 1) l) (i + 1))

    pub at-short : length l < behind_word l i → list_commands i l ≡ stopped 8 i
    unfolding behind_word
    at-short s =
        at-word ∙ rw (lt-ltb (length (drop (i + 1) l)) (words_behind false (commands_of (get_or l i 0)))
        (omega (arith, length-drop (i + 1) l)))

    pub at-complete : behind_word l i ≤ length l
        → list_commands i l ≡ prepend (word_commands l i) (list_commands (behind_word l i) l)
    unfolding list_commands behind_word
    at-complete s =
        at-word ∙ rw (
          le-ltb (length (drop (i + 1) l)) (words_behind false (commands_of (get_or l i 0)))
              (omega (arith, length-drop (i + 1) l)),
          drop-drop (words_behind false (commands_of (get_or l i 0))) (i + 1) l,
        )

-- ---- a command word of an accepted list

pub record GoodWord (l : List ℕ) (i : ℕ) (cs : List Command) : Type 0 where
  pub no_hole : hole (command_bytes (get_or l i 0)) ≡ false
  pub all_there : behind_word l i ≤ length l
  pub read : list_commands i l ≡ prepend (word_commands l i) (list_commands (behind_word l i) l)
  pub rest : More (word_commands l i) cs (list_commands (behind_word l i) l)

pub good_word : (l : List ℕ) (i : ℕ) (cs : List Command) → i < length l → list_commands i l ≡ commands cs
    → GoodWord l i cs
good_word l i cs h e =
    let r = at-complete l i h no_hole all_there in
    record {
      no_hole = no_hole;
      all_there = all_there;
      read = r;
      rest = behind (word_commands l i) cs (list_commands (behind_word l i) l) (sym r ∙ e);
    }
  where
    no_hole : hole (command_bytes (get_or l i 0)) ≡ false
    no_hole = by (hole (command_bytes (get_or l i 0))) refl
      where
        by : (t : Bool) → hole (command_bytes (get_or l i 0)) ≡ t → t ≡ false
        by true q = stopped-not (sym (at-hole l i h q) ∙ e)
        by false q = refl

    all_there : behind_word l i ≤ length l
    all_there = by (ltb (length l) (behind_word l i)) refl
      where
        by : (t : Bool) → ltb (length l) (behind_word l i) ≡ t → behind_word l i ≤ length l
        by true q = stopped-not (sym (at-short l i h no_hole (ltb-true (length l) (behind_word l i) q)) ∙ e)
        by false q = ltb-false (length l) (behind_word l i) q
