-- The pass that writes a log's packed words: what is still to come of an accepted log, the room for it, and the
-- invariants of its two loops.
use mathlib.Core.Bool.{Bool, true, false}
use mathlib.Core.List.{List, [], ◌∷◌, ◌++◌, append_assoc, append-nil}
use mathlib.Core.Logic.{◌⊎◌, inl, inr}
use mathlib.Core.Path.{◌≡◌, refl, sym, ap, ◌∙◌}
use Prim.Native.Nat.{ℕ, suc, ◌+◌, ◌-◌, ◌*◌, ◌^◌, ◌≤◌, ◌<◌}
use native.Mathlib.Nat.{zero-add, pow-succ', mul_assoc}
use native.Mathlib.Omega.{arith}
use lib.Dec.{eqb}
use lib.ListN.{length, take, drop, set, length-append, length-drop, length-set, drop_of_length-le}
use lib.Seq.{sets, sets-eq, length-sets, length-take-le, set_comm, take_all, take-append-add, drop-drop}
use borrow.Rule.Slice.PartMut.{put_mid}
use Rattle.words.specs.Words.{word_of, over}
use Rattle.words.proofs.Over.{sets-append, sets_over}
use Rattle.commands.specs.Commands.{count}
use Rattle.stream.specs.Command.{Command, Write}
use Rattle.stream.specs.Read.{commands, log_commands}
use Rattle.stream.specs.Pack.{queue_of, parameters_of, ends_with_none, group_words, packed_words, count_if, or_none, IsRead}
use Rattle.stream.specs.Unpack.{writes_for}
use Rattle.stream.proofs.ReadLaws.{More, behind}
use Rattle.stream.proofs.PackLaws.{length-queue, parameters-append, one-most}
use Rattle.stream.proofs.UnpackLaws.{writes_for_none, writes_for_some, writes_for_bounds}
use Rattle.packer.specs.Inside.{writes_of, rest_commands, values, byte_at, command_from, Begins, IsGroup, GroupFits, PutGroup}
use Rattle.packer.proofs.ValueLaws.{length-writes_of, part-writes, length-values}
use Rattle.packer.proofs.CommandWalk.{read-command, read-begins}
use Rattle.packer.proofs.GroupLaws.{length-group, Taken, none-taken, taken_more, group-taken, packed-one}
use Rattle.packer.proofs.GroupLaws.{packed-four, Passed, none_passed, one_more, length_more, passed-more}
use Rattle.packer.proofs.GroupLaws.{all-passed, from_first}

-- ---- a command word

queue-append : (g h : List Command) → queue_of (g ++ h) ≡ queue_of g ++ queue_of h
queue-append [] h = refl
queue-append (c ∷ g) h = ap (λ (l : List ℕ). c.byte ∷ l) (queue-append g h)

word_more : (q : List ℕ) (c : ℕ) → word_of (q ++ c ∷ []) ≡ word_of q + 256 ^ length q * c
word_more [] c = omega arith
word_more (b ∷ q) c =
    let p : 256 ^ suc (length q) * c ≡ 256 * (256 ^ length q * c) =
    ap (λ (x : ℕ). x * c) (pow-succ' 256 (length q)) ∙ mul_assoc 256 (256 ^ length q) c in
    omega (arith, p, word_more q c)

-- a store below a run of stores
set_below : (l : List ℕ) (i j : ℕ) (ys : List ℕ) (v : ℕ) → i < j → set (sets l j ys) i v ≡ sets (set l i v) j ys
set_below l i j [] v h = refl
set_below l i j (y ∷ ys) v h =
    let e : set (set l j y) i v ≡ set (set l i v) j y = set_comm l j i y v (λ q. omega arith) in
    set_below (set l j y) i (suc j) ys v (omega arith) ∙ ap (λ (k : List ℕ). sets k (suc j) ys) e

-- the values of n writes from the k-th on, stored in a part of a list
put_part : (l : List ℕ) (i : ℕ) (log : List (List ℕ)) (k n : ℕ) (vs : List ℕ)
    → k + n ≤ length log → i + n ≤ length l → vs ≡ values (writes_of (take (k + n - k) (drop k log)))
    → put_mid i (i + n - i) l vs ≡ sets l i (values (take n (drop k (writes_of log))))
put_part l i log k n vs h room e =
    let a : k + n - k ≡ n = omega arith in
    let b : i + n - i ≡ n = omega arith in
    let v : vs ≡ values (take n (drop k (writes_of log))) =
    e ∙ ap values (rw a (part-writes log k n)) in
    let z : length vs ≡ n =
    ap length v
    ∙ length-values (take n (drop k (writes_of log)))
    ∙ length-take-le n (drop k (writes_of log))
    (rw length-drop (omega (arith, length-writes_of log))) in
    rw (b, ← v, drop-drop, sets-eq vs l i (omega (arith, z)), z) (sym (append_assoc (take i l) vs (drop (i + n) l)))

-- ---- room

packed-first : (c : Command) (l : List Command)
    → packed_words (c ∷ l) ≡ group_words (c ∷ take 3 l) ++ packed_words (drop 3 l)
unfolding packed_words
packed-first c [] = refl
packed-first c (a ∷ []) = refl
packed-first c (a ∷ b ∷ []) = refl
packed-first c (a ∷ b ∷ d ∷ l) = refl

-- the command word and the parameters of commands that stand in one word
packed-room : (g r : List Command) → 1 ≤ length g → length g ≤ 4
    → 1 + length (parameters_of g) ≤ length (packed_words (g ++ r))
packed-room [] r s m = absurd (omega arith)
packed-room (c ∷ g) r s m =
    let k : length g + (3 - length g) ≡ 3 = omega arith in
    let e : take 3 (g ++ r) ≡ g ++ take (3 - length g) r = rw k at (take-append-add g r (3 - length g)) in
    omega (
      arith,
      ap length (packed-first c (g ++ r)),
      length-append (group_words (c ∷ take 3 (g ++ r))) (packed_words (drop 3 (g ++ r))),
      ap (λ (l : List Command). length (group_words (c ∷ l))) e,
      length-group ((c ∷ g) ++ take (3 - length g) r),
      ap length (parameters-append (c ∷ g) (take (3 - length g) r)),
      length-append (parameters_of (c ∷ g)) (parameters_of (take (3 - length g) r)),
    )

-- a whole group of an accepted log, and what comes behind it
record Behind (ws : List Write) (next : ℕ) (cs all : List Command) : Type 0 where
  more : List Command
  is : rest_commands next ws ≡ commands more
  packed : packed_words all ≡ group_words cs ++ packed_words more

log_ended : (ws : List Write) (i : ℕ) → length ws ≤ i → rest_commands i ws ≡ commands []
unfolding rest_commands
log_ended ws i h = rw (drop_of_length-le ws {i = i} h)

nothing_behind : (cs : List Command) → group_words cs ++ packed_words [] ≡ group_words cs
unfolding packed_words
nothing_behind cs = append-nil (group_words cs)

group-behind : {ws : List Write} {i next : ℕ} {cs : List Command} (all : List Command) → IsGroup ws i next cs
    → rest_commands i ws ≡ commands all → Behind ws next cs all
group-behind {ws} {i} {next} {cs} all g e = by g.full
  where
    m : More cs all (rest_commands next ws)
    m = behind cs all (rest_commands next ws) (sym g.read ∙ e)

    by : (length cs ≡ 4) ⊎ (next ≡ length ws) → Behind ws next cs all
    by (inl f) = record {
      more = m.more;
      is = m.is;
      packed = ap packed_words m.joined ∙ packed-four cs m.more f;
    }
    by (inr f) =
        let z : commands m.more ≡ commands [] = sym m.is ∙ log_ended ws next (omega arith) in
        let n : m.more ≡ [] = cc in
        record {
          more = m.more;
          is = m.is;
          packed = ap packed_words (m.joined ∙ rw n (append-nil cs)) ∙ packed-one cs g.some g.most
              ∙ sym (rw n (nothing_behind cs));
        }

-- reading and writing go on behind a command of n parameters, whose values are stored
pub record Stored (ws : List Write) (n next end : ℕ) (buffer : List ℕ) (next' end' : ℕ) (buffer' : List ℕ) : Type 0 where
  pub next-is : next' ≡ next + writes_for n
  pub end-is : end' ≡ end + n
  pub buffer-is : buffer' ≡ sets buffer end (values (take n (drop next ws)))

pub stored_none : {ws : List Write} {n next end : ℕ} {buffer : List ℕ} {next' end' : ℕ} {buffer' : List ℕ}
    → n ≡ 0 → next' ≡ next + 1 → end' ≡ end → buffer' ≡ buffer → Stored ws n next end buffer next' end' buffer'
stored_none {n = n} z e f g = record {
  next-is = omega (arith, writes_for_none n z);
  end-is = omega arith;
  buffer-is = rw z g;
}

pub stored_some : (log : List (List ℕ)) {n next end : ℕ} {buffer : List ℕ} {next' end' : ℕ} {buffer' vs : List ℕ}
    → (n ≡ 0 → ⊥) → next + n ≤ length log → end + n ≤ length buffer
    → vs ≡ values (writes_of (take (next + n - next) (drop next log))) → next' ≡ next + n → end' ≡ end + n
    → buffer' ≡ put_mid end (end + n - end) buffer vs → Stored (writes_of log) n next end buffer next' end' buffer'
stored_some log {n} {next} {end} {buffer} {vs = vs} d h room v e f g = record {
  next-is = omega (arith, writes_for_some n (omega arith));
  end-is = f;
  buffer-is = g ∙ put_part buffer end log next n vs h room v;
}

-- ---- the loop that writes a group: its commands cs are stored behind the first word, where their command word will stand

pub record PuttingGroup (ws : List Write) (i : ℕ) (old : List ℕ) (next slot word size : ℕ) (none : Bool)
    (new : List ℕ) : Type 0 where
  pub fits : GroupFits ws i old
  pub cs : List Command
  pub parameters : ℕ
  pub taken : Taken ws i next slot parameters none cs
  pub word-is : word ≡ word_of (queue_of cs)
  pub word_small : word < 256 ^ slot
  pub size_is : size ≡ 1 + parameters
  pub same : length new ≡ length old
  pub buffer : new ≡ sets old 1 (parameters_of cs)

pub put_group_start : {ws : List Write} {i : ℕ} {old : List ℕ} → GroupFits ws i old
    → PuttingGroup ws i old i 0 0 1 false old
put_group_start {ws} {i} f = record {
  fits = f;
  cs = [];
  parameters = 0;
  taken = none-taken ws i f.start;
  word-is = refl;
  word_small = omega arith;
  size_is = refl;
  same = refl;
  buffer = refl;
}

module _ {ws : List Write} {i : ℕ} {old : List ℕ} {next slot word size : ℕ} {none : Bool} {new : List ℕ}
    (p : PuttingGroup ws i old next slot word size none new) where
  rest-is : More p.cs (or_none (rest_commands i ws)) (rest_commands next ws)
  rest-is =
      behind p.cs (or_none (rest_commands i ws)) (rest_commands next ws)
      (sym p.taken.read ∙ p.fits.is_read)

  module _ (h : next < length ws) where
    -- a command begins at the next write
    pub next-command : byte_at ws next ≡ 0 → ⊥
    next-command = read-command ws next rest-is.more h rest-is.is

    -- the next command, of n parameters
    module _ (few : slot < 4) (n : ℕ) (k : n ≡ count (byte_at ws next)) where
      b : Begins ws next (next + writes_for n) n
      b = rw k (read-begins ws next rest-is.more h rest-is.is)

      t : Taken ws i (next + writes_for n) (slot + 1) (p.parameters + n) (eqb n 0)
          (p.cs ++ command_from ws next n ∷ [])
      t = taken_more p.taken few b

      m : More (p.cs ++ command_from ws next n ∷ []) (or_none (rest_commands i ws))
          (rest_commands (next + writes_for n) ws)
      m =
          behind (p.cs ++ command_from ws next n ∷ []) (or_none (rest_commands i ws))
          (rest_commands (next + writes_for n) ws) (sym t.read ∙ p.fits.is_read)

      pub values-room : (next + n ≤ length ws) × (size + n ≤ length new)
      values-room = (
        omega (arith, writes_for_bounds n, b.within),
        omega (
          arith,
          p.fits.room,
          p.same,
          p.size_is,
          t.counted,
          ap (λ (l : List Command). length (packed_words l)) m.joined,
          packed-room (p.cs ++ command_from ws next n ∷ []) m.more (omega (arith, t.slots))
              (omega (arith, t.slots, t.most)),
        ),
      )

      pub put_group_more : {next' word' size' : ℕ} {new' : List ℕ} → Stored ws n next size new next' size' new'
          → word' ≡ word + 256 ^ slot * byte_at ws next → word' < 256 ^ (slot + 1)
          → PuttingGroup ws i old next' (slot + 1) word' size' (eqb n 0) new'
      put_group_more e w s =
          let c = command_from ws next n in
          let vs = values (take n (drop next ws)) in
          record {
            fits = p.fits;
            cs = p.cs ++ c ∷ [];
            parameters = p.parameters + n;
            taken = rw e.next-is t;
            word-is = w
                ∙ rw (
                  queue-append p.cs (c ∷ []),
                  word_more (queue_of p.cs) (byte_at ws next),
                  length-queue p.cs,
                  ← p.taken.slots,
                  ← p.word-is,
                );
            word_small = s;
            size_is = omega (arith, p.size_is, e.end-is);
            same = ap length e.buffer-is ∙ length-sets new size vs ∙ p.same;
            buffer = e.buffer-is
                ∙ sym (rw (
                  parameters-append p.cs (c ∷ []),
                  append-nil vs,
                  sets-append old 1 (parameters_of p.cs) vs,
                  ← p.taken.counted,
                  ← p.size_is,
                  ← p.buffer,
                ));
          }

  -- the group is full, or the log is at its end
  module _ (w : (slot ≡ 4) ⊎ (length ws ≤ next)) where
    g : IsGroup ws i next p.cs
    g = group-taken p.taken p.fits.start w

    l : Behind ws next p.cs (or_none (rest_commands i ws))
    l = group-behind (or_none (rest_commands i ws)) g p.fits.is_read

    length-is : length (group_words p.cs) ≡ size + count_if none 0
    length-is = length-group p.cs ∙ rw (← p.taken.counted, ← p.taken.last, ← p.size_is)

    pub size-room : size + count_if none 0 ≤ length old
    size-room =
        omega (
          arith,
          p.fits.room,
          length-is,
          ap length l.packed,
          length-append (group_words p.cs) (packed_words l.more),
        )

    first : set new 0 word ≡ sets old 0 (word_of (queue_of p.cs) ∷ parameters_of p.cs)
    first =
        rw (p.buffer, p.word-is)
        (set_below old 0 1 (parameters_of p.cs) (word_of (queue_of p.cs)) (omega arith))

    -- the words that are stored
    put : {size' : ℕ} {new' : List ℕ} → size' ≡ size + count_if none 0 → new' ≡ sets old 0 (group_words p.cs)
        → PutGroup ws i next old new' size'
    put z e = record {
      cs = p.cs;
      group = g;
      counted = z ∙ sym length-is;
      small = omega (arith, p.size_is, p.taken.small, p.taken.most, one-most none);
      room = omega (arith, size-room);
      buffer = e ∙ sets_over old (group_words p.cs) (omega (arith, size-room, length-is));
    }

    pub dummy-room : none ≡ true → size < length (set new 0 word)
    dummy-room e =
        rw (length-set new 0 word) (omega (arith, size-room, p.same, ap (λ (b : Bool). count_if b 0) e))

    pub put_dummy : none ≡ true → PutGroup ws i next old (set (set new 0 word) size 0) (size + 1)
    unfolding group_words
    put_dummy e =
        let d : ends_with_none false p.cs ≡ true = sym p.taken.last ∙ e in
        let k : count_if none 0 ≡ 1 = ap (λ (b : Bool). count_if b 0) e in
        let q : length (word_of (queue_of p.cs) ∷ parameters_of p.cs) ≡ size = omega (arith, p.size_is, p.taken.counted) in
        put (omega arith)
        (rw (first, d) (rw (zero-add (length (word_of (queue_of p.cs) ∷ parameters_of p.cs)), q) at
        (sym (sets-append old 0 (word_of (queue_of p.cs) ∷ parameters_of p.cs) (0 ∷ [])))))

    pub put_plain : none ≡ false → PutGroup ws i next old (set new 0 word) size
    unfolding group_words
    put_plain e =
        let d : ends_with_none false p.cs ≡ false = sym p.taken.last ∙ e in
        let k : count_if none 0 ≡ 0 = ap (λ (b : Bool). count_if b 0) e in
        put (omega arith) (first ∙ rw (d, append-nil (parameters_of p.cs)))

-- ---- the loop that writes a log

-- words stored at the start of the rest of a list
put_rest : (l : List ℕ) (i : ℕ) (xs vs : List ℕ) → i + length xs ≤ length l
    → vs ≡ over xs (take (length l - i) (drop i l)) → put_mid i (length l - i) l vs ≡ sets l i xs
unfolding over
put_rest l i xs vs h e =
    let n : length (drop i l) ≡ length l - i = length-drop i l in
    let t : take (length l - i) (drop i l) ≡ drop i l = take_all (length l - i) (drop i l) (omega arith) in
    let d : drop (length l - i) (drop i l) ≡ [] = drop_of_length-le (drop i l) {i = length l - i} (omega arith) in
    rw (e, t, d, append-nil (xs ++ drop (length xs) (drop i l)), drop-drop, sets-eq xs l i h)
    (sym (append_assoc (take i l) xs (drop (i + length xs) l)))

pub record PuttingLog (ws : List Write) (old : List ℕ) (next to : ℕ) (new : List ℕ) : Type 0 where
  pub few : length ws ≤ 4096
  pub done : List Command
  pub passed : Passed ws next done
  pub is_read : IsRead (log_commands ws)
  pub room : length (packed_words (or_none (log_commands ws))) ≤ length old
  pub to_is : to ≡ length (packed_words done)
  pub same : length new ≡ length old
  pub buffer : new ≡ sets old 0 (packed_words done)

pub put_log_start : {ws : List Write} {old : List ℕ} → length ws ≤ 4096 → IsRead (log_commands ws)
    → length (packed_words (or_none (log_commands ws))) ≤ length old → PuttingLog ws old 0 0 old
unfolding packed_words
put_log_start {ws} f g r = record {
  few = f;
  done = [];
  passed = none_passed ws;
  is_read = g;
  room = r;
  to_is = refl;
  same = refl;
  buffer = refl;
}

module _ {ws : List Write} {old : List ℕ} {next to : ℕ} {new : List ℕ} (p : PuttingLog ws old next to new) where
  left : More p.done (or_none (log_commands ws)) (rest_commands next ws)
  left =
      behind p.done (or_none (log_commands ws)) (rest_commands next ws)
      (sym p.passed.read ∙ sym (from_first ws) ∙ p.is_read)

  module _ (h : next < length ws) where
    rest-room : to + length (packed_words left.more) ≤ length new
    rest-room =
        omega (
          arith,
          p.to_is,
          p.room,
          p.same,
          ap (λ (l : List Command). length (packed_words l)) left.joined,
          ap length (p.passed.apart h left.more),
          length-append (packed_words p.done) (packed_words left.more),
        )

    -- there is room for the rest of the log's words
    pub to-room : to ≤ length new
    to-room = omega (arith, rest-room)

    length-rest : length (take (length new - to) (drop to new)) ≡ length new - to
    length-rest = length-take-le (length new - to) (drop to new) (rw (length-drop to new) (omega arith))

    pub group-fits : GroupFits ws next (take (length new - to) (drop to new))
    group-fits = record {
      few = p.few;
      start = h;
      is_read = rw left.is;
      room = rw left.is (omega (arith, rest-room, length-rest));
    }

    pub put_log_more : {next' size : ℕ} (vs : List ℕ)
        → PutGroup ws next next' (take (length new - to) (drop to new)) vs size
        → PuttingLog ws old next' (to + size) (put_mid to (length new - to) new vs)
    put_log_more vs q =
        let room : to + length (group_words q.cs) ≤ length new =
        omega (arith, q.room, q.counted, length-rest, to-room) in
        let stored = put_rest new to (group_words q.cs) vs room q.buffer in
        record {
          few = p.few;
          done = p.done ++ q.cs;
          passed = passed-more p.passed h q.group (omega (arith, q.counted, q.small));
          is_read = p.is_read;
          room = p.room;
          to_is = omega (arith, q.counted, p.to_is, length_more p.passed h q.group);
          same = ap length stored ∙ length-sets new to (group_words q.cs) ∙ p.same;
          buffer = stored
              ∙ rw (
                one_more p.passed h q.group,
                sets-append old 0 (packed_words p.done) (group_words q.cs),
                zero-add (length (packed_words p.done)),
                ← p.to_is,
                ← p.buffer,
              );
        }

  pub put_log_end : length ws ≤ next → new ≡ over (packed_words (or_none (log_commands ws))) old
  put_log_end h =
      let e : log_commands ws ≡ commands p.done = from_first ws ∙ all-passed p.passed h in
      let k : p.done ≡ or_none (log_commands ws) = sym (rw e) in
      p.buffer ∙ rw (← k) (sets_over old (packed_words p.done) (rw k p.room))
