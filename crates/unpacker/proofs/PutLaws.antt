-- The pass that writes a list's port writes: the invariants of its three loops.
use mathlib.Core.Bool.{Bool, true, false, cond}
use mathlib.Core.List.{List, [], ◌∷◌, ◌++◌, append_assoc, append-nil}
use mathlib.Core.Path.{◌≡◌, refl, sym, ap, ◌∙◌}
use Prim.Native.Nat.{ℕ, ◌+◌, ◌*◌, ◌/◌, ◌%◌, ◌^◌, ◌≤◌, ◌<◌}
use native.Mathlib.Numerals.{add-one}
use native.Mathlib.Omega.{arith}
use lib.Dec.{eqb}
use lib.ListN.{length, get_or, take, drop, set, length-drop}
use lib.Seq.{sets, length-sets, length-take-le, drop-drop}
use Rattle.std.specs.Prelude.{Some, None}
use Rattle.words.specs.Words.{over}
use Rattle.words.proofs.Over.{sets-append, take_next, length_over, over_none, over-more}
use Rattle.commands.proofs.Table.{known-range}
use Rattle.commands.specs.Commands.{lookup, known, count, port, command_bytes, hole}
use Rattle.stream.specs.Pending.{commands_of}
use Rattle.stream.specs.Command.{takes_none, Command, command}
use Rattle.stream.specs.Read.{commands, prepend, list_commands}
use Rattle.stream.specs.Pack.{count_if}
use Rattle.stream.specs.Unpack.{writes_to, writes_for, log_of, commands_log}
use Rattle.stream.proofs.CommandLaws.{none-by-count}
use Rattle.stream.proofs.QueueLaws.{commands-next, hole-next, commands-none}
use Rattle.stream.proofs.ReadLaws.{prepend-none, prepend-append, More, behind}
use Rattle.stream.proofs.UnpackLaws.{writes_to_more, length_writes_log, commands_log_append, length-commands_log}
use Rattle.stream.proofs.UnpackLaws.{command_log}
use Rattle.unpacker.specs.declared.Places.{Places}
use Rattle.unpacker.specs.Inside.{words_behind, commands_from, word_commands, behind_word}
use Rattle.unpacker.specs.Inside.{values_of, log_from, WordFits, PutWord}
use Rattle.unpacker.proofs.WordLaws.{list_ended, GoodWord, good_word}
use Rattle.unpacker.proofs.ByteLaws.{takes, no_command}
use Rattle.unpacker.proofs.ExtentLaws.{length-command}

-- ---- writes of values to one address: one more, behind the first j

pub put_more : (values : List ℕ) (a to : ℕ) (old new : List ℕ) (j : ℕ) → j < length values
    → new ≡ sets old to (log_of (writes_to a (take j values)))
    → set (set new (to + 2 * j) a) (to + 2 * j + 1) (get_or values j 0)
    ≡ sets old to (log_of (writes_to a (take (j + 1) values)))
put_more values a to old new j h e =
    sym (ap (λ (x : List ℕ). sets old to (log_of (writes_to a x))) more
    ∙ ap (sets old to) (writes_to_more a (take j values) v)
    ∙ sets-append old to (log_of (writes_to a (take j values))) (a ∷ v ∷ [])
    ∙ rw (written, ← e, add-one (to + 2 * j)))
  where
    v : ℕ
    v = get_or values j 0

    more : take (j + 1) values ≡ take j values ++ v ∷ []
    more = take_next values j 0 h

    written : length (log_of (writes_to a (take j values))) ≡ 2 * j
    written =
        length_writes_log a (take j values)
        ∙ ap (λ (x : ℕ). 2 * x) (length-take-le j values (omega (arith, h)))

-- ---- a command word's commands one by one, with `queue` left of it

pub record PuttingWord (l : List ℕ) (i to : ℕ) (old : List ℕ) (queue next end : ℕ) (dummy : Bool) (new : List ℕ)
    : Type 0 where
  pub small : queue < 2 ^ 32
  pub no_hole : hole (command_bytes queue) ≡ false
  pub all_there : behind_word l i ≤ length l
  pub room : to + length (commands_log (word_commands l i)) ≤ length old
  pub done : List Command
  pub left : word_commands l i ≡ done ++ commands_from (commands_of queue) (drop next l)
  pub next-is : next + words_behind dummy (commands_of queue) ≡ behind_word l i
  pub end_is : end ≡ to + length (commands_log done)
  pub same : length new ≡ length old
  pub buffer : new ≡ sets old to (commands_log done)

pub put_word_start : (l : List ℕ) (i to : ℕ) (old : List ℕ) → get_or l i 0 < 2 ^ 32 → WordFits l i to old
    → PuttingWord l i to old (get_or l i 0) (i + 1) to false old
unfolding commands_log word_commands behind_word
put_word_start l i to old s f = record {
  small = s;
  no_hole = f.no_hole;
  all_there = f.all_there;
  room = f.room;
  done = [];
  left = refl;
  next-is = refl;
  end_is = omega arith;
  same = refl;
  buffer = refl;
}

-- the first command of a queue, with its parameters from the place `next` on, and the commands behind it
abbrev first : List ℕ → ℕ → ℕ → Command
first l next queue = command (queue % 256) (take (count (queue % 256)) (drop next l))

abbrev later : List ℕ → ℕ → ℕ → List Command
later l next queue = commands_from (commands_of (queue / 256)) (drop (next + count (queue % 256)) l)

module _ {l : List ℕ} {i to : ℕ} {old : List ℕ} {queue next end : ℕ} {dummy : Bool} {new : List ℕ}
    (p : PuttingWord l i to old queue next end dummy new) where
  module _ (n : ℕ) (found : Some n ≡ lookup (queue % 256)) where
    k : known (queue % 256) ≡ true
    k = (takes (queue % 256) n found).0

    e : n ≡ count (queue % 256)
    e = (takes (queue % 256) n found).1

    t : eqb n 0 ≡ takes_none (queue % 256)
    t = none-by-count (queue % 256) n e

    q : commands_of queue ≡ queue % 256 ∷ commands_of (queue / 256)
    q = commands-next queue p.small k

    left-more : word_commands l i ≡ p.done ++ first l next queue ∷ later l next queue
    left-more = p.left ∙ rw (q, drop-drop (count (queue % 256)) next l)

    pub queue-falls : queue / 256 < queue
    queue-falls = omega (arith, known-range (queue % 256) k)

    pub enough : next + n ≤ length l
    enough = omega (arith, e, p.next-is, p.all_there, ap (words_behind dummy) q)

    -- its parameters, and what is written to its port
    abbrev given : List ℕ
    given = take n (drop next l)

    length-given : length given ≡ n
    length-given = length-take-le n (drop next l) (omega (arith, enough, length-drop next l))

    values-given : values_of given ≡ cond (takes_none (queue % 256)) (0 ∷ []) given
    values-given = rw (length-given, t)

    length-values : length (values_of given) ≡ writes_for n
    unfolding writes_for
    length-values = rw length-given (by (eqb n 0))
      where
        by : (t : Bool) → length (cond t (0 ∷ []) given) ≡ cond t 1 n
        by true = refl
        by false = length-given

    length-one : length (commands_log (first l next queue ∷ [])) ≡ 2 * writes_for n
    length-one =
        rw e (length-command (queue % 256) (take (count (queue % 256)) (drop next l))
        (length-take-le (count (queue % 256)) (drop next l) (omega (arith, e, enough, length-drop next l))))

    pub command-room : end + 2 * length (values_of given) ≤ length new
    command-room =
        omega (
          arith,
          p.end_is,
          p.room,
          p.same,
          length-values,
          ap (λ (x : List Command). length (commands_log x)) left-more,
          length-one,
          length-commands_log p.done (first l next queue ∷ later l next queue),
          length-commands_log (first l next queue ∷ []) (later l next queue),
        )

    pub put_word_more : (end' : ℕ) (new' : List ℕ) → end' ≡ end + 2 * length (values_of given)
        → new' ≡ sets new end (log_of (writes_to (port (queue % 256)) (values_of given)))
        → PuttingWord l i to old (queue / 256) (next + n) end' (eqb n 0) new'
    put_word_more end' new' f g = record {
      small = omega (arith, p.small);
      no_hole = sym (hole-next queue p.small k) ∙ p.no_hole;
      all_there = p.all_there;
      room = p.room;
      done = p.done ++ first l next queue ∷ [];
      left = left-more ∙ rw e (sym (append_assoc p.done (first l next queue ∷ []) (later l next queue)));
      next-is = rw t (omega (arith, e, p.next-is, ap (words_behind dummy) q));
      end_is = omega (arith, f, length-values, p.end_is, length-one, length-commands_log p.done (first l next queue ∷ []));
      same = ap length g ∙ length-sets new end (log_of (writes_to (port (queue % 256)) (values_of given))) ∙ p.same;
      buffer = g ∙ sym (ap (sets old to) (commands_log_append p.done (first l next queue ∷ []))
          ∙ sets-append old to (commands_log p.done) (commands_log (first l next queue ∷ []))
          ∙ rw (← p.end_is, ← p.buffer, command_log (queue % 256) (first l next queue).parameters, ← e, ← values-given));
    }

  module _ (ended : None ≡ lookup (queue % 256)) where
    none_left : commands_of queue ≡ []
    none_left = commands-none queue (no_command (queue % 256) ended) p.no_hole

    pub put_word_end : (n : ℕ) → n ≡ count_if dummy 0 → PutWord l i to old new (record { next = next + n; to = end })
    put_word_end n e =
        let d : word_commands l i ≡ p.done = p.left ∙ rw none_left (append-nil p.done) in
        record {
          next = omega (arith, e, p.next-is, ap (words_behind dummy) none_left);
          end = p.end_is ∙ rw d;
          buffer = p.buffer ∙ rw d;
        }

-- ---- a list's command words one by one

pub record PuttingList (l old : List ℕ) (place i to : ℕ) (new : List ℕ) : Type 0 where
  pub done : List Command
  pub read : list_commands place l ≡ prepend done (list_commands i l)
  pub all : List Command
  pub accepted : list_commands place l ≡ commands all
  pub room : length (commands_log all) ≤ length old
  pub to_is : to ≡ length (commands_log done)
  pub buffer : new ≡ over (commands_log done) old

pub put_list_start : (l old : List ℕ) (place : ℕ) (cs : List Command) → list_commands place l ≡ commands cs
    → length (commands_log cs) ≤ length old → PuttingList l old place place 0 old
unfolding commands_log
put_list_start l old place cs e r = record {
  done = [];
  read = sym (prepend-none (list_commands place l));
  all = cs;
  accepted = e;
  room = r;
  to_is = refl;
  buffer = sym (over_none old);
}

module _ {l old : List ℕ} {place i to : ℕ} {new : List ℕ} (p : PuttingList l old place i to new) where
  behind-done : More p.done p.all (list_commands i l)
  behind-done = behind p.done p.all (list_commands i l) (sym p.read ∙ p.accepted)

  fits-done : length (commands_log p.done) + length (commands_log behind-done.more) ≤ length old
  fits-done =
      omega (
        arith,
        p.room,
        ap (λ (x : List Command). length (commands_log x)) behind-done.joined,
        length-commands_log p.done behind-done.more,
      )

  pub kept-length : length new ≡ length old
  kept-length = ap length p.buffer ∙ length_over (commands_log p.done) old (omega (arith, fits-done))

  module _ (h : i < length l) where
    word : GoodWord l i behind-done.more
    word = good_word l i behind-done.more h behind-done.is

    fits_word : length (commands_log p.done) + length (commands_log (word_commands l i)) ≤ length old
    fits_word =
        omega (
          arith,
          fits-done,
          ap (λ (x : List Command). length (commands_log x)) word.rest.joined,
          length-commands_log (word_commands l i) word.rest.more,
        )

    pub word_fits : WordFits l i to new
    word_fits = record {
      within = h;
      no_hole = word.no_hole;
      all_there = word.all_there;
      room = omega (arith, p.to_is, kept-length, fits_word);
    }

    pub put_list_next : (new' : List ℕ) (s : Places) → PutWord l i to new new' s → i < s.next
    unfolding behind_word
    put_list_next new' s q = omega (arith, q.next)

    pub put_list_more : (new' : List ℕ) (s : Places) → PutWord l i to new new' s
        → PuttingList l old place s.next s.to new'
    put_list_more new' s q =
        let c : List Command = word_commands l i in
        let y : list_commands i l ≡ prepend c (list_commands s.next l) = rw q.next word.read in
        record {
          done = p.done ++ c;
          read = p.read ∙ ap (prepend p.done) y
              ∙ prepend-append p.done (word_commands l i) (list_commands s.next l);
          all = p.all;
          accepted = p.accepted;
          room = p.room;
          to_is = omega (arith, q.end, p.to_is, length-commands_log p.done (word_commands l i));
          buffer = q.buffer ∙ rw (p.to_is, p.buffer, commands_log_append p.done (word_commands l i))
              (over-more (commands_log p.done) (commands_log (word_commands l i)) old fits_word);
        }

  pub put_list_end : length l ≤ i → new ≡ over (log_from place l) old
  put_list_end h =
      let e : list_commands place l ≡ commands p.done =
      p.read ∙ rw (list_ended l i h) (ap commands (append-nil p.done)) in
      rw e p.buffer
