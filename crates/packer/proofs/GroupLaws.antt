-- The commands of one command word, taken from a log one by one, and packed words group by group: the invariants of the
-- loops that measure.
use mathlib.Core.Bool.{Bool, true, false}
use mathlib.Core.List.{List, [], ◌∷◌, ◌++◌, append_assoc, append-nil}
use mathlib.Core.Logic.{◌⊎◌, inl, inr}
use mathlib.Core.Path.{◌≡◌, refl, sym, ap, ◌∙◌}
use Prim.Native.Nat.{ℕ, zero, suc, ◌+◌, ◌*◌, ◌≤◌, ◌<◌}
use native.Mathlib.Omega.{arith}
use lib.Dec.{eqb}
use lib.ListN.{length, take, drop, length-append, length-drop, drop_of_length-le}
use lib.Seq.{length-take-le}
use Rattle.std.specs.Prelude.{Ok, Err}
use Rattle.std.specs.Int.{from_bool}
use Rattle.commands.proofs.Table.{count_small}
use Rattle.stream.specs.Command.{takes_none, Command, Write}
use Rattle.stream.specs.declared.Refused.{Refused}
use Rattle.stream.specs.Read.{commands, prepend, log_commands}
use Rattle.stream.specs.Output.{answer_to, measured}
use Rattle.stream.specs.Pack.{parameters_of, ends_with_none, dummy_if, group_words, packed_words, count_if}
use Rattle.stream.proofs.CommandLaws.{none-by-count}
use Rattle.stream.proofs.ReadLaws.{prepend-none, prepend-append}
use Rattle.stream.proofs.PackLaws.{parameters-append, one-most, length-dummy}
use Rattle.stream.proofs.UnpackLaws.{writes_for_bounds}
use Rattle.packer.specs.Inside.{rest_commands, Stops, values, byte_at, command_from, Begins, IsGroup, SizedGroup}
use Rattle.packer.proofs.ValueLaws.{length-values}

-- ---- commands one by one

ends_last : (b : Bool) (g : List Command) (c : Command) → ends_with_none b (g ++ c ∷ []) ≡ takes_none c.byte
ends_last b [] c = refl
ends_last b (d ∷ g) c = ends_last (takes_none d.byte) g c

pub length-group : (g : List Command)
    → length (group_words g) ≡ 1 + length (parameters_of g) + count_if (ends_with_none false g) 0
unfolding group_words
length-group g =
    omega (
      arith,
      length-append (parameters_of g) (dummy_if (ends_with_none false g)),
      length-dummy (ends_with_none false g) 0,
    )

length-parameters : {ws : List Write} {i next n : ℕ} → Begins ws i next n → length (values (take n (drop i ws))) ≡ n
length-parameters {ws} {i} {next} {n} b =
    length-values (take n (drop i ws))
    ∙ length-take-le n (drop i ws) (rw (length-drop i ws) (omega (arith, writes_for_bounds n, b.within, b.next-is)))

-- commands from write i on up to `next`, in one command word so far: `slot` of them with `size` parameters; `none`: the
-- last of them takes none
pub record Taken (ws : List Write) (i next slot size : ℕ) (none : Bool) (cs : List Command) : Type 0 where
  pub read : rest_commands i ws ≡ prepend cs (rest_commands next ws)
  pub slots : slot ≡ length cs
  pub most : slot ≤ 4
  pub counted : size ≡ length (parameters_of cs)
  pub small : size ≤ 32 * slot
  pub last : none ≡ ends_with_none false cs
  pub none_yet : slot ≡ 0 → next ≡ i
  pub on : 1 ≤ slot → i < next
  pub within : next ≤ length ws

pub none-taken : (ws : List Write) (i : ℕ) → i < length ws → Taken ws i i 0 0 false []
none-taken ws i h = record {
  read = sym (prepend-none (rest_commands i ws));
  slots = refl;
  most = omega arith;
  counted = refl;
  small = omega arith;
  last = refl;
  none_yet = λ _. refl;
  on = λ z. absurd (omega arith);
  within = omega arith;
}

-- one command more
pub taken_more : {ws : List Write} {i next slot size next' n : ℕ} {none : Bool} {cs : List Command}
    → Taken ws i next slot size none cs → slot < 4 → Begins ws next next' n
    → Taken ws i next' (slot + 1) (size + n) (eqb n 0) (cs ++ command_from ws next n ∷ [])
taken_more {ws} {i} {next} {slot} {size} {next'} {n} {none} {cs} t few b =
    let c = command_from ws next n in
    record {
      read = t.read ∙ ap (prepend cs) b.read ∙ prepend-append cs (c ∷ []) (rest_commands next' ws);
      slots = omega (arith, t.slots, length-append cs (c ∷ []));
      most = omega arith;
      counted = omega (
        arith,
        t.counted,
        length-parameters b,
        ap length (parameters-append cs (c ∷ [])),
        length-append (parameters_of cs) (values (take n (drop next ws)) ++ []),
        length-append (values (take n (drop next ws))) [],
      );
      small = omega (arith, t.small, b.counted, count_small (byte_at ws next));
      last = none-by-count (byte_at ws next) n b.counted ∙ sym (ends_last false cs c);
      none_yet = λ z. absurd (omega arith);
      on = λ _. by slot refl;
      within = b.within;
    }
  where
    by : (s : ℕ) → slot ≡ s → i < next'
    by zero e = omega (arith, t.none_yet e, writes_for_bounds n, b.next-is)
    by (suc s) e = omega (arith, t.on (omega arith), writes_for_bounds n, b.next-is)

-- a whole group
pub group-taken : {ws : List Write} {i next slot size : ℕ} {none : Bool} {cs : List Command}
    → Taken ws i next slot size none cs → i < length ws → (slot ≡ 4) ⊎ (length ws ≤ next) → IsGroup ws i next cs
group-taken {ws} {i} {next} {slot} {size} {none} {cs} t h w = record {
  read = t.read;
  some = omega (arith, one w slot refl, t.slots);
  most = omega (arith, t.most, t.slots);
  full = ways w;
  on = t.on (one w slot refl);
  within = t.within;
}
  where
    one : (slot ≡ 4) ⊎ (length ws ≤ next) → (s : ℕ) → slot ≡ s → 1 ≤ slot
    one (inl e) s q = omega arith
    one (inr e) zero q = absurd (omega (arith, t.none_yet q))
    one (inr e) (suc s) q = omega arith

    ways : (slot ≡ 4) ⊎ (length ws ≤ next) → (length cs ≡ 4) ⊎ (next ≡ length ws)
    ways (inl e) = inl (sym t.slots ∙ e)
    ways (inr e) = inr (omega (arith, t.within))

-- ---- the loop that measures a group

-- as the code counts the dummy
pub one-if : (b : Bool) → from_bool b ≡ count_if b 0
one-if true = refl
one-if false = refl

pub record MeasuringGroup (ws : List Write) (i next slot size : ℕ) (none : Bool) : Type 0 where
  pub start : i < length ws
  pub cs : List Command
  pub taken : Taken ws i next slot size none cs

pub group-start : (ws : List Write) (i : ℕ) → i < length ws → MeasuringGroup ws i i 0 0 false
group-start ws i h = record { start = h; cs = []; taken = none-taken ws i h }

module _ {ws : List Write} {i next slot size : ℕ} {none : Bool} (m : MeasuringGroup ws i next slot size none) where
  pub group-bounds : (size ≤ 128) × (slot ≤ 4)
  group-bounds = (omega (arith, m.taken.small, m.taken.most), m.taken.most)

  module _ {next' n : ℕ} (b : Begins ws next next' n) where
    pub group-more-fits : size + n ≤ 160
    group-more-fits = omega (arith, group-bounds.0, b.counted, count_small (byte_at ws next))

    pub group-more : slot < 4 → MeasuringGroup ws i next' (slot + 1) (size + n) (eqb n 0)
    group-more h = record {
      start = m.start;
      cs = m.cs ++ command_from ws next n ∷ [];
      taken = taken_more m.taken h b;
    }

  pub group-stopped : (r : Refused) → Stops ws next r → Stops ws i r
  group-stopped r s = m.taken.read ∙ ap (prepend m.cs) s

  pub group-end : (slot ≡ 4) ⊎ (length ws ≤ next) → SizedGroup ws i next (1 + size + count_if none 0)
  group-end w = record {
    cs = m.cs;
    group = group-taken m.taken m.start w;
    counted = sym (length-group m.cs ∙ rw (m.taken.counted, m.taken.last));
    small = omega (arith, m.taken.small, m.taken.most, one-most none);
  }

-- ---- packed words, group by group

pub packed-one : (g : List Command) → 1 ≤ length g → length g ≤ 4 → packed_words g ≡ group_words g
unfolding packed_words
packed-one [] s m = absurd (omega arith)
packed-one (a ∷ []) s m = append-nil (group_words (a ∷ []))
packed-one (a ∷ b ∷ []) s m = append-nil (group_words (a ∷ b ∷ []))
packed-one (a ∷ b ∷ c ∷ []) s m = append-nil (group_words (a ∷ b ∷ c ∷ []))
packed-one (a ∷ b ∷ c ∷ d ∷ []) s m = append-nil (group_words (a ∷ b ∷ c ∷ d ∷ []))
packed-one (a ∷ b ∷ c ∷ d ∷ e ∷ g) s m = absurd (omega arith)

pub packed-four : (g r : List Command) → length g ≡ 4 → packed_words (g ++ r) ≡ group_words g ++ packed_words r
unfolding packed_words
packed-four [] r m = absurd (omega arith)
packed-four (a ∷ []) r m = absurd (omega arith)
packed-four (a ∷ b ∷ []) r m = absurd (omega arith)
packed-four (a ∷ b ∷ c ∷ []) r m = absurd (omega arith)
packed-four (a ∷ b ∷ c ∷ d ∷ []) r m = refl
packed-four (a ∷ b ∷ c ∷ d ∷ e ∷ g) r m = absurd (omega arith)

-- the commands up to write i, in whole groups from the log's first write on
pub record Passed (ws : List Write) (i : ℕ) (done : List Command) : Type 0 where
  pub within : i ≤ length ws
  pub read : rest_commands 0 ws ≡ prepend done (rest_commands i ws)
  pub apart : i < length ws → (r : List Command) → packed_words (done ++ r) ≡ packed_words done ++ packed_words r
  pub small : length (packed_words done) ≤ 130 * i

pub none_passed : (ws : List Write) → Passed ws 0 []
unfolding packed_words
none_passed ws = record {
  within = omega arith;
  read = sym (prepend-none (rest_commands 0 ws));
  apart = λ h r. refl;
  small = omega arith;
}

module _ {ws : List Write} {i : ℕ} {done : List Command} (p : Passed ws i done) where
  module _ (h : i < length ws) {next : ℕ} {cs : List Command} (g : IsGroup ws i next cs) where
    pub one_more : packed_words (done ++ cs) ≡ packed_words done ++ group_words cs
    one_more = p.apart h cs ∙ ap (λ (l : List ℕ). packed_words done ++ l) (packed-one cs g.some g.most)

    pub length_more : length (packed_words (done ++ cs)) ≡ length (packed_words done) + length (group_words cs)
    length_more = ap length one_more ∙ length-append (packed_words done) (group_words cs)

    apart_more : next < length ws → (length cs ≡ 4) ⊎ (next ≡ length ws) → (r : List Command)
        → packed_words ((done ++ cs) ++ r) ≡ packed_words (done ++ cs) ++ packed_words r
    apart_more k (inl e) r =
        rw (append_assoc done cs r)
        (p.apart h (cs ++ r)
        ∙ ap (λ (l : List ℕ). packed_words done ++ l) (packed-four cs r e)
        ∙ sym (append_assoc (packed_words done) (group_words cs) (packed_words r))
        ∙ ap (λ (l : List ℕ). l ++ packed_words r) (sym one_more))
    apart_more k (inr e) r = absurd (omega arith)

    pub passed-more : length (group_words cs) ≤ 130 → Passed ws next (done ++ cs)
    passed-more s = record {
      within = g.within;
      read = p.read ∙ ap (prepend done) g.read ∙ prepend-append done cs (rest_commands next ws);
      apart = λ k. apart_more k g.full;
      small = omega (arith, length_more, p.small, g.on);
    }

  -- the end of the log
  pub all-passed : length ws ≤ i → rest_commands 0 ws ≡ commands done
  unfolding rest_commands
  all-passed h = p.read ∙ rw (drop_of_length-le ws {i = i} h) (ap commands (append-nil done))

pub from_first : (l : List Write) → log_commands l ≡ rest_commands 0 l
unfolding rest_commands log_commands
from_first l = refl

-- ---- the loop that measures a log

pub record Measuring (ws : List Write) (i total : ℕ) : Type 0 where
  pub done : List Command
  pub passed : Passed ws i done
  pub total_is : total ≡ length (packed_words done)

pub measure_start : (ws : List Write) → Measuring ws 0 0
unfolding packed_words
measure_start ws = record { done = []; passed = none_passed ws; total_is = refl }

module _ {ws : List Write} {i total : ℕ} (m : Measuring ws i total) where
  pub measure_more : i < length ws → {next size : ℕ} → SizedGroup ws i next size → Measuring ws next (total + size)
  measure_more h g = record {
    done = m.done ++ g.cs;
    passed = passed-more m.passed h g.group (omega (arith, g.counted, g.small));
    total_is = omega (arith, m.total_is, g.counted, length_more m.passed h g.group);
  }

  pub measure_stopped : (r : Refused) → Stops ws i r → answer_to (Err r) ≡ measured packed_words (log_commands ws)
  measure_stopped r s = rw (from_first ws, m.passed.read, s)

  pub measure_end : length ws ≤ i → answer_to (Ok total) ≡ measured packed_words (log_commands ws)
  measure_end h = rw (from_first ws, all-passed m.passed h, m.total_is)
