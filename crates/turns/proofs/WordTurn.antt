-- What a turn over packed words gives, case by case.
use mathlib.Core.Bool.{Bool, true, false}
use mathlib.Core.List.{List, [], ◌∷◌, ◌++◌, append-nil}
use mathlib.Core.Path.{◌≡◌, refl, sym, ap, ◌∙◌}
use Prim.Native.Nat.{ℕ, zero, suc, ◌+◌, ◌/◌, ◌%◌, ◌^◌, ◌≤◌, ◌<◌}
use native.Mathlib.Nat.{add-zero}
use native.Mathlib.Omega.{arith}
use lib.ListN.{length, get_or, take, drop}
use borrow.Author.Tests.{ne_eqb, lt-ltb, le-ltb}
use Rattle.std.specs.Prelude.{Some, None}
use Rattle.commands.specs.Commands.{known, count, command_bytes, hole}
use Rattle.commands.proofs.Table.{known-range, count_small}
use Rattle.stream.specs.declared.Refusal.TheVariants.{Hole, OtherKindPending}
use Rattle.stream.specs.Pending.{dummy_due, queued, commands_of}
use Rattle.stream.specs.Command.{command}
use Rattle.stream.specs.Step.{accepted, at_once, pending_behind, command_word, parameter_word, word_step}
use Rattle.stream.proofs.CommandLaws.{never}
use Rattle.stream.proofs.QueueLaws.{hole-next}
use Rattle.stream.proofs.StepLaws.{length-snoc}
use Rattle.turns.specs.declared.Begun.{Begun}
use Rattle.turns.specs.declared.Outcome.TheVariants.{Runs, GoesOn, Ends}
use Rattle.turns.specs.Inside.{due_of, pending_due, Fit, Held, no_item, one-item, given_by, Turned}
use Rattle.turns.proofs.HeldLaws.{same_length, next_one}
use Rattle.turns.proofs.ManyLaws.{some-taken, all-taken}
use Rattle.turns.proofs.TurnLaws.{begun, turn, turned_on, turned-all, turned-refused}
use Rattle.turns.proofs.TurnLaws.{given-none, given-some, due-none, due-some, pending-none, pending-some}
use Rattle.turns.proofs.TurnLaws.{due-idle, pending-idle, pending-behind, due-behind, fit-behind}

-- ---- parameters of the first command c of the queue c ∷ q

-- no more is held than it takes
pub held-few : (b : Begun) → Fit b → known (b.queue % 256) ≡ true → b.count ≤ count (b.queue % 256)
held-few b f k = by (count (b.queue % 256)) refl
  where
    by : (n : ℕ) → count (b.queue % 256) ≡ n → b.count ≤ count (b.queue % 256)
    by zero z = omega (arith, f.none-held k z)
    by (suc n) z = omega (arith, f.fewer k (omega (arith, z)))

module _ (c : ℕ) (q : List ℕ) where
  more : (h : List ℕ) (w : ℕ) → length h + 1 < count c
      → word_step (queued (c ∷ q) h) w ≡ accepted (queued (c ∷ q) (h ++ w ∷ [])) []
  unfolding word_step parameter_word
  more h w few = rw (lt-ltb (length (h ++ w ∷ [])) (count c) (omega (arith, length-snoc h w)))

  last : (h : List ℕ) (w : ℕ) → length h + 1 ≡ count c
      → word_step (queued (c ∷ q) h) w ≡ accepted (pending_behind false q) (command c (h ++ w ∷ []) ∷ at_once q)
  unfolding word_step parameter_word
  last h w all = rw (le-ltb (length (h ++ w ∷ [])) (count c) (omega (arith, length-snoc h w)))

module _ (b : Begun) (ws old : List ℕ) (i : ℕ) (long : length old ≡ 32) (fits : b.queue < 2 ^ 32) (f : Fit b)
    (k : known (b.queue % 256) ≡ true) where
  abbrev c : ℕ
  c = b.queue % 256

  abbrev q : List ℕ
  q = commands_of (b.queue / 256)

  fit_next : (d : Bool) → Fit (begun (b.queue / 256) 0 d 0)
  fit_next d = fit-behind (b.queue / 256) d (sym (hole-next b.queue fits k) ∙ f.no_hole)

  given : (held : List ℕ) → given_by c held ≡ command c (take (count c) held) ∷ []
  given = given-some c (λ z. omega (arith, z, known-range c k))

  -- it lacks none: then it takes none, since fewer are held than a command takes that takes any
  pub word-at_once : {d : Bool} → d ≡ true → b.count ≡ count c → i ≤ length ws
      → Turned word_step ws i b old (turn i (begun (b.queue / 256) 0 d 0) (Runs c)) old
  word-at_once {d} last e w =
      rw last
      (turned_on 0 (begun (b.queue / 256) 0 true 0) (Runs c) [] refl (sym (add-zero i)) refl (omega (arith, w))
      (rw (pending-none b fits k old z, pending-behind (b.queue / 256) true old) no_item)
      (append-nil (due_of b) ∙ due-none b fits k z ∙ rw (given old, z, due-behind (b.queue / 256) true))
      (fit_next true) (λ n. absurd (omega (arith, ap length (sym n ∙ due-none b fits k z))))
      (omega (arith, known-range c k)))
    where
      by : (n : ℕ) → count c ≡ n → count c ≡ 0
      by zero z = z
      by (suc n) z = absurd (omega (arith, e, z, f.fewer k (omega (arith, z))))

      z : count c ≡ 0
      z = by (count c) refl

  -- it is complete with words that were lacking
  pub word-complete : {d : Bool} {new : List ℕ} (lacks : ℕ) → d ≡ false → 1 ≤ lacks → b.count + lacks ≡ count c
      → i + lacks ≤ length ws → Held (λ w. w) ws i old b.count new lacks
      → Turned word_step ws i b old (turn (i + lacks) (begun (b.queue / 256) 0 d 0) (Runs c)) new
  word-complete {d} {new} lacks more-due o e w h =
      let some : 1 ≤ count c = omega (arith, e) in
      rw more-due
      (turned_on lacks (begun (b.queue / 256) 0 false 0) (Runs c) (command c (take (count c) new) ∷ at_once q)
      refl refl (same_length h) w
      (rw (pending-some b fits k old some, pending-behind (b.queue / 256) false new)
      (all-taken word_step (λ w. w) (queued (c ∷ q)) (count c) (more c q) h long (count_small c) (pending_behind false q)
      (λ h. command c h ∷ at_once q) (last c q) o e))
      (rw (due-some b fits k some, given new, due-behind (b.queue / 256) false))
      (fit_next false) (λ n. o) (omega (arith, w, fits, o)))

  -- words are lacking
  pub word-short : {new : List ℕ} (left : ℕ) → b.count + left < count c → i + left ≡ length ws
      → Held (λ w. w) ws i old b.count new left
      → Turned word_step ws i b old (turn (i + left) (begun b.queue (b.count + left) false b.port) (Ends None)) new
  word-short {new} left e w h =
      let some : 1 ≤ count c = omega (arith, e) in
      let n : Begun = begun b.queue (b.count + left) false b.port in
      turned-all left n refl (same_length h) w
      (rw (pending-some b fits k old some, pending-some n fits k new some)
      (some-taken word_step (λ w. w) (queued (c ∷ q)) (count c) (more c q) h long (count_small c) e))
      (due-some b fits k some) (due-some n fits k some)
      (record {
        no_hole = f.no_hole;
        fewer = λ _ _. e;
        none-held = λ _ z. absurd (omega (arith, z, some));
        no_port = f.no_port;
        idle-held = λ u. never (sym u ∙ k);
        port-held = λ p. absurd (p (f.no_port k));
      })

-- ---- nothing is queued

module _ (b : Begun) (ws old : List ℕ) (i : ℕ) (f : Fit b) (k : known (b.queue % 256) ≡ false) (inside : i < length ws)
  where
    -- a port command is pending
    pub word-port : (b.port ≡ 0 → ⊥) → Turned word_step ws i b old (turn i b (Ends (Some OtherKindPending))) old
    unfolding word_step
    word-port p =
        turned-refused f (due-idle b k f) OtherKindPending (λ z. omega (arith, z)) inside 0
        (rw (pending-idle b k f old, ne_eqb b.port 0 p))

    one : take 1 (drop i ws) ≡ get_or ws i 0 ∷ []
    one = next_one ws i 0 inside

    -- nothing is pending but, where it is due, the dummy
    module _ (z : b.port ≡ 0) where
      due : pending_due b old ≡ dummy_due b.dummy
      due = pending-idle b k f old ∙ rw (z, f.idle-held k z)

      -- the dummy is taken
      pub word-dummy : b.dummy ≡ true
          → Turned word_step ws i b old (turn (i + 1) (begun b.queue b.count false b.port) GoesOn) old
      unfolding word_step
      word-dummy d =
          turned_on 1 n GoesOn [] refl refl refl (omega arith)
          (rw (one, due, d, pending-idle n k fit_n old, z, f.idle-held k z) (one-item {cs = []} refl no_item))
          (rw (due-idle b k f, given-none old, due-idle n k fit_n)) fit_n (λ n. omega arith) (omega arith)
        where
          n : Begun
          n = begun b.queue b.count false b.port

          fit_n : Fit n
          fit_n = record {
            no_hole = f.no_hole;
            fewer = f.fewer;
            none-held = f.none-held;
            no_port = f.no_port;
            idle-held = f.idle-held;
            port-held = f.port-held;
          }

      -- a command word
      module _ (d : b.dummy ≡ false) where
        abbrev x : ℕ
        x = get_or ws i 0

        pub word-hole : hole (command_bytes x) ≡ true → Turned word_step ws i b old (turn i b (Ends (Some Hole))) old
        unfolding word_step command_word
        word-hole h =
            turned-refused f (due-idle b k f) Hole (λ z. omega (arith, z)) inside 0 (rw (due, d, h))

        taken : hole (command_bytes x) ≡ false
            → word_step (dummy_due b.dummy) x ≡ accepted (pending_behind false (commands_of x)) (at_once (commands_of x))
        unfolding word_step command_word
        taken h = rw (d, h)

        pub word-word : x < 2 ^ 32 → hole (command_bytes x) ≡ false
            → Turned word_step ws i b old (turn (i + 1) (begun x 0 false 0) GoesOn) old
        word-word fits h =
            let q : List ℕ = commands_of x in
            turned_on 1 (begun x 0 false 0) GoesOn (at_once q ++ []) refl refl refl (omega arith)
            (rw (one, due, pending-behind x false old) (one-item (taken h) no_item))
            (rw (due-idle b k f, given-none old, due-behind x false, append-nil (at_once q)))
            (fit-behind x false h) (λ n. omega arith) (omega (arith, fits))
