-- What is pending by the front of the queue, and turns over any step.
use mathlib.Core.Bool.{Bool, true, false}
use mathlib.Core.List.{List, [], ◌∷◌, ◌++◌}
use mathlib.Core.Path.{◌≡◌, refl, sym, ap, ◌∙◌}
use Prim.Native.Nat.{ℕ, zero, suc, ◌+◌, ◌/◌, ◌%◌, ◌^◌, ◌≤◌, ◌<◌}
use native.Mathlib.Nat.{add-zero}
use native.Mathlib.Omega.{arith}
use lib.ListN.{length, get_or, take, drop}
use lib.Seq.{get_or-drop}
use borrow.Author.Tests.{ne_eqb}
use Rattle.std.specs.Prelude.{Some, None}
use Rattle.commands.specs.Commands.{known, count, command_bytes, hole}
use Rattle.stream.specs.declared.Refusal.{Refusal}
use Rattle.stream.specs.Refusal.{number_of}
use Rattle.stream.specs.Pending.{Pending, queued, commands_of}
use Rattle.stream.specs.Command.{takes_none, Command, command}
use Rattle.stream.specs.Step.{Step, refused, at_once, pending_behind}
use Rattle.stream.proofs.CommandLaws.{never, count_takes_some, none-by-count}
use Rattle.stream.proofs.QueueLaws.{commands-next, commands-none}
use Rattle.turns.specs.declared.Begun.{Begun}
use Rattle.turns.specs.declared.Turn.{Turn}
use Rattle.turns.specs.declared.Outcome.{Outcome}
use Rattle.turns.specs.declared.Outcome.TheVariants.{Ends}
use Rattle.turns.specs.Inside.{due_of, behind_due, pending_due, Fit, AllTaken, no_item, given_by, to_come, Turned}
use Rattle.turns.specs.Inside.{command_in, has_ended}

abbrev pub begun : ℕ → ℕ → Bool → ℕ → Begun
begun queue count dummy port = record { queue = queue; count = count; dummy = dummy; port = port }

abbrev pub turn : ℕ → Begun → Outcome → Turn
turn next b outcome = record { next = next; begun = b; outcome = outcome }

-- ---- what is due and pending, by the front of the queue

pub given-none : (held : List ℕ) → given_by 0 held ≡ []
unfolding given_by
given-none held = refl

pub given-some : (c : ℕ) → (c ≡ 0 → ⊥) → (held : List ℕ) → given_by c held ≡ command c (take (count c) held) ∷ []
unfolding given_by
given-some c n held = rw (ne_eqb c 0 n)

module _ (b : Begun) (fits : b.queue < 2 ^ 32) (k : known (b.queue % 256) ≡ true) where
  abbrev c : ℕ
  c = b.queue % 256

  abbrev q : List ℕ
  q = commands_of (b.queue / 256)

  takes_none_lem : count c ≡ 0 → takes_none c ≡ true
  takes_none_lem z = sym (none-by-count c 0 (sym z))

  pub due-none : count c ≡ 0 → due_of b ≡ command c [] ∷ at_once q
  unfolding due_of
  due-none z = rw (commands-next b.queue fits k, takes_none_lem z)

  pub due-some : 1 ≤ count c → due_of b ≡ []
  unfolding due_of
  due-some s = rw (commands-next b.queue fits k, count_takes_some c s)

  pub pending-none : (held : List ℕ) → count c ≡ 0 → pending_due b held ≡ pending_behind true q
  unfolding pending_due
  pending-none held z = rw (commands-next b.queue fits k, takes_none_lem z)

  pub pending-some : (held : List ℕ) → 1 ≤ count c → pending_due b held ≡ queued (c ∷ q) (take b.count held)
  unfolding pending_due
  pending-some held s = rw (commands-next b.queue fits k, count_takes_some c s)

  cons-not-nil : (d : Command) (l : List Command) → d ∷ l ≡ [] → ⊥
  cons-not-nil d l e = omega (arith, ap length e)

  -- where no command is due the first one takes parameters
  pub due_takes : due_of b ≡ [] → 1 ≤ count c
  due_takes due = by (count c) refl
    where
      by : (n : ℕ) → count c ≡ n → 1 ≤ count c
      by zero z = absurd (cons-not-nil _ _ (sym (due-none z) ∙ due))
      by (suc n) z = omega (arith, z)

-- nothing is queued
module _ (b : Begun) (k : known (b.queue % 256) ≡ false) (f : Fit b) where
  pub due-idle : due_of b ≡ []
  unfolding due_of
  due-idle = rw (commands-none b.queue k f.no_hole)

  pub pending-idle : (held : List ℕ) → pending_due b held
      ≡ record { queue = []; held = take b.count held; dummy = b.dummy; port = b.port }
  unfolding pending_due
  pending-idle held = rw (commands-none b.queue k f.no_hole)

-- behind a command, or a command word
module _ (queue : ℕ) (d : Bool) where
  behind-due : (q : List ℕ) → behind_due d 0 [] q ≡ pending_behind d q
  behind-due [] = refl
  behind-due (c ∷ q) = refl

  pub pending-behind : (held : List ℕ) → pending_due (begun queue 0 d 0) held ≡ pending_behind d (commands_of queue)
  unfolding pending_due
  pending-behind held = behind-due (commands_of queue)

  pub due-behind : due_of (begun queue 0 d 0) ≡ at_once (commands_of queue)
  unfolding due_of
  due-behind = refl

  pub fit-behind : hole (command_bytes queue) ≡ false → Fit (begun queue 0 d 0)
  fit-behind h = record {
    no_hole = h;
    fewer = λ k s. s;
    none-held = λ k z. refl;
    no_port = λ k. refl;
    idle-held = λ k z. refl;
    port-held = λ n. absurd (n refl);
  }

-- ---- turns

module _ {A : Type 0} {step : Pending → A → Step} {items : List A} {i : ℕ} {b : Begun} {old : List ℕ} where
  -- items are taken, and there is more
  pub turned_on : {new : List ℕ} {next : ℕ} (many : ℕ) (n : Begun) (o : Outcome) (completed : List Command)
      → has_ended o ≡ false → next ≡ i + many → length new ≡ length old → i + many ≤ length items
      → AllTaken step (pending_due b old) (take many (drop i items)) (pending_due n new) completed
      → due_of b ++ completed ≡ given_by (command_in o) new ++ due_of n → Fit n → (due_of b ≡ [] → 1 ≤ many)
      → to_come (length items) next n < to_come (length items) i b → Turned step items i b old (turn next n o) new
  turned_on many n o completed more next same within taken order fit some less = record {
    many = many;
    completed = completed;
    next = next;
    same = same;
    within = within;
    taken = taken;
    order = order;
    fit = fit;
    none-due = λ t. never (sym more ∙ t);
    none-given = λ t. never (sym more ∙ t);
    all-taken = λ t. never (sym more ∙ t);
    not_taken = λ t. never (sym more ∙ t);
    some_left = λ t. never (sym more ∙ t);
    as_before = λ t. never (sym more ∙ t);
    some-taken = λ t. some;
    less = λ t. less;
  }

  -- all items that are left are taken
  pub turned-all : {new : List ℕ} {next : ℕ} (many : ℕ) (n : Begun) → next ≡ i + many → length new ≡ length old
      → i + many ≡ length items
      → AllTaken step (pending_due b old) (take many (drop i items)) (pending_due n new) []
      → due_of b ≡ [] → due_of n ≡ [] → Fit n → Turned step items i b old (turn next n (Ends None)) new
  turned-all {new} many n next same all taken due due-n fit = record {
    many = many;
    completed = [];
    next = next;
    same = same;
    within = omega (arith, all);
    taken = taken;
    order = rw (due, due-n, given-none new);
    fit = fit;
    none-due = λ t. due-n;
    none-given = λ t. refl;
    all-taken = λ t z. all;
    not_taken = λ t z. absurd (z refl);
    some_left = λ t z. absurd (z refl);
    as_before = λ t z. absurd (z refl);
    some-taken = λ t. never (sym t);
    less = λ t. never (sym t);
  }

  module _ (f : Fit b) (due : due_of b ≡ []) where
    -- none is left
    pub turned_ended : i ≤ length items → length items ≤ i → Turned step items i b old (turn i b (Ends None)) old
    turned_ended within end = turned-all 0 b (sym (add-zero i)) refl (omega arith) no_item due due f

    -- the next is refused
    pub turned-refused : (n : Refusal) → (number_of n ≡ 0 → ⊥) → i < length items → (d : A)
        → step (pending_due b old) (get_or items i d) ≡ refused (number_of n)
        → Turned step items i b old (turn i b (Ends (Some n))) old
    turned-refused n number inside d told = record {
      many = 0;
      completed = [];
      next = sym (add-zero i);
      same = refl;
      within = omega arith;
      taken = no_item;
      order = rw (due, given-none old);
      fit = f;
      none-due = λ t. due;
      none-given = λ t. refl;
      all-taken = λ t z. absurd (number z);
      not_taken = λ t z a l e. ap (step (pending_due b old)) (first a l e) ∙ told;
      some_left = λ t z. omega arith;
      as_before = λ t z. (refl, refl);
      some-taken = λ t. never (sym t);
      less = λ t. never (sym t);
    }
      where
        first : (a : A) (l : List A) → drop (i + 0) items ≡ a ∷ l → a ≡ get_or items i d
        first a l e =
            let here : i + 0 + 0 ≡ i = omega arith in
            sym (ap (λ (l : List A). get_or l 0 d) e) ∙ get_or-drop (i + 0) items 0 d
            ∙ ap (λ (n : ℕ). get_or items n d) here
