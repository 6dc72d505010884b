-- What a turn over port writes gives, case by case.
use mathlib.Core.Bool.{Bool, true, false, not, ◌&&◌, ◌||◌}
use mathlib.Core.List.{List, [], ◌∷◌, ◌++◌}
use mathlib.Core.Path.{◌≡◌, refl, sym, ap, subst, ◌∙◌}
use Prim.Native.Nat.{ℕ, zero, suc, ◌+◌, ◌*◌, ◌/◌, ◌%◌, ◌^◌, ◌≤◌, ◌<◌}
use native.Mathlib.Omega.{arith}
use lib.Dec.{eqb}
use lib.ListN.{length, get_or, take, drop}
use lib.Seq.{length-take-le}
use borrow.Author.Tests.{eq-eqb, ne_eqb, eqb-true, eqb-false, lt-ltb, le-ltb}
use Rattle.std.specs.Prelude.{Some, None}
use Rattle.commands.specs.Commands.{known, count, command_at}
use Rattle.commands.proofs.Table.{count_small}
use Rattle.stream.specs.declared.Refusal.{Refusal}
use Rattle.stream.specs.declared.Refusal.TheVariants.{OtherKindPending, NoPort, OtherPort}
use Rattle.stream.specs.Refusal.{number_of}
use Rattle.stream.specs.Pending.{Pending, idle, port_pending, packed_pending}
use Rattle.stream.specs.Command.{takes_none, command, write}
use Rattle.stream.specs.Read.{writes}
use Rattle.stream.specs.Step.{refused, accepted, held_with, port_parameter, port_step}
use Rattle.stream.proofs.CommandLaws.{never, count_takes_some}
use Rattle.stream.proofs.QueueLaws.{commands-none}
use Rattle.stream.proofs.StepLaws.{length-snoc}
use Rattle.stream.proofs.UnpackLaws.{length-writes}
use Rattle.stream.proofs.WriteLaws.{writes_at}
use Rattle.turns.specs.declared.Begun.{Begun}
use Rattle.turns.specs.declared.Outcome.{Outcome}
use Rattle.turns.specs.declared.Outcome.TheVariants.{Runs, GoesOn, Ends}
use Rattle.turns.specs.declared.Turn.{Turn}
use Rattle.turns.specs.Inside.{due_of, pending_due, is_packed, Fit, Writable, pair_at}
use Rattle.turns.specs.Inside.{Held, AllTaken, no_item, one-item, Turned}
use Rattle.turns.proofs.HeldLaws.{same_length, next_one}
use Rattle.turns.proofs.ManyLaws.{some-taken, all-taken}
use Rattle.turns.proofs.TurnLaws.{begun, turn, turned_on, turned_ended, turned-refused}
use Rattle.turns.proofs.TurnLaws.{given-none, given-some, pending-some, due_takes, due-idle, pending-idle}
use Rattle.turns.proofs.TurnLaws.{pending-behind, fit-behind}

pub write-is : (log : List ℕ) (i : ℕ) → i < length log / 2 → get_or (writes log) i (write 0 0) ≡ pair_at log i
write-is log i h = writes_at log i (omega (arith, h))

-- ---- a packed word is pending, or not

unpacked : (x y : Bool) → (x || y) ≡ false → (x ≡ false) × (y ≡ false)
unpacked true y e = never (sym e)
unpacked false y e = (refl, e)

is-packed : (b : Begun) → b.queue < 2 ^ 32 → Fit b → due_of b ≡ [] → is_packed b ≡ true → (held : List ℕ)
    → packed_pending (pending_due b held) ≡ true
unfolding is_packed
is-packed b fits f due e held = by (known (b.queue % 256)) refl
  where
    by : (t : Bool) → known (b.queue % 256) ≡ t → packed_pending (pending_due b held) ≡ true
    by true k = rw (pending-some b fits k held (due_takes b fits k due))
    by false k = rw (pending-idle b k f held) (rw k at e)

module _ (b : Begun) (free : is_packed b ≡ false) where
  not-queued : known (b.queue % 256) ≡ false
  unfolding is_packed
  not-queued = (unpacked (known (b.queue % 256)) b.dummy free).0

  no_dummy : b.dummy ≡ false
  unfolding is_packed
  no_dummy = (unpacked (known (b.queue % 256)) b.dummy free).1

-- whether a packed word is pending after a turn is read from these two
pub same-packed : {r : Turn} {next : ℕ} {n : Begun} {outcome : Outcome} → r ≡ turn next n outcome
    → (r.begun.queue ≡ n.queue) × (r.begun.dummy ≡ n.dummy)
same-packed is = (ap (λ (r : Turn). r.begun.queue) is, ap (λ (r : Turn). r.begun.dummy) is)

-- ---- refusals

-- what a test by two negations says
pub neither : (x y : Bool) → (not x && not y) ≡ true → (x || y) ≡ false
neither true y e = never e
neither false true e = never e
neither false false e = refl

pub either : (x y : Bool) → (not x && not y) ≡ false → (x || y) ≡ true
either true y e = refl
either false true e = refl
either false false e = never (sym e)

module _ (b : Begun) (log old : List ℕ) (i : ℕ) (f : Fit b) (due : due_of b ≡ []) where
  pub write_ended : i ≤ length log / 2 → length log / 2 ≤ i
      → Turned port_step (writes log) i b old (turn i b (Ends None)) old
  write_ended w e = turned_ended f due (omega (arith, w, length-writes log)) (omega (arith, e, length-writes log))

  module _ (w : i < length log / 2) (c : ℕ) (at : c ≡ command_at (get_or log (2 * i) 0)) where
    write-refused : (n : Refusal) → (number_of n ≡ 0 → ⊥)
        → port_step (pending_due b old) (pair_at log i) ≡ refused (number_of n)
        → Turned port_step (writes log) i b old (turn i b (Ends (Some n))) old
    write-refused n d told =
        turned-refused f due n d (omega (arith, w, length-writes log)) (write 0 0) (rw (write-is log i w) told)

    -- the address is no port
    pub write_no_port : c ≡ 0 → Turned port_step (writes log) i b old (turn i b (Ends (Some NoPort))) old
    unfolding port_step
    write_no_port z = write-refused NoPort (λ z. omega (arith, z)) (rw (← at, z))

    module _ (some : c ≡ 0 → ⊥) where
      -- a packed word is pending
      pub write-packed : b.queue < 2 ^ 32 → is_packed b ≡ true
          → Turned port_step (writes log) i b old (turn i b (Ends (Some OtherKindPending))) old
      unfolding port_step
      write-packed fits p =
          write-refused OtherKindPending (λ z. omega (arith, z))
          (rw (← at, ne_eqb c 0 some, is-packed b fits f due p old))

      -- another port's command is pending
      pub write_other : is_packed b ≡ false → (b.port ≡ 0 → ⊥) → (b.port ≡ c → ⊥)
          → Turned port_step (writes log) i b old (turn i b (Ends (Some OtherPort))) old
      unfolding port_step
      write_other free begun-one other =
          write-refused OtherPort (λ z. omega (arith, z))
          (rw (
            pending-idle b (not-queued b free) f old,
            ← at,
            ne_eqb c 0 some,
            no_dummy b free,
            ne_eqb b.port 0 begun-one,
            ne_eqb b.port c other,
          ))

-- ---- writes are taken

-- what is pending with h of the parameters of c held; p is the port before the first of them
abbrev on : ℕ → ℕ → List ℕ → Pending
on c p [] = port_pending p []
on c p (x ∷ h) = port_pending c (x ∷ h)

on_some : (c p : ℕ) (h : List ℕ) → 1 ≤ length h → port_pending c h ≡ on c p h
on_some c p [] e = absurd (omega arith)
on_some c p (x ∷ h) e = refl

on-own : (c p : ℕ) → p ≡ c → (h : List ℕ) → port_pending p h ≡ on c p h
on-own c p e [] = refl
on-own c p e (x ∷ h) = ap (λ (y : ℕ). port_pending y (x ∷ h)) e

module _ {b : Begun} {log old : List ℕ} {i c : ℕ} (t : Writable b c log i old) where
  abbrev a : ℕ
  a = get_or log (2 * i) 0

  k : known (b.queue % 256) ≡ false
  k = not-queued b t.free

  d : b.dummy ≡ false
  d = no_dummy b t.free

  own-c : (eqb c 0 || eqb c c) ≡ true
  own-c = rw (ne_eqb c 0 t.some, eq-eqb c c refl)

  stepped : (h : List ℕ) (v : ℕ) → port_step (on c b.port h) (write a v) ≡ port_parameter c (held_with c h v)
  unfolding port_step
  stepped [] v = rw (← t.at, ne_eqb c 0 t.some, t.own)
  stepped (x ∷ h) v = rw (← t.at, own-c, ne_eqb c 0 t.some)

  -- it takes none
  at_once : (v : ℕ) → count c ≡ 0 → port_step (on c b.port []) (write a v) ≡ accepted idle (command c [] ∷ [])
  unfolding held_with port_parameter takes_none
  at_once v z = stepped [] v ∙ rw z

  more : 1 ≤ count c → (h : List ℕ) (v : ℕ) → length h + 1 < count c
      → port_step (on c b.port h) (write a v) ≡ accepted (on c b.port (h ++ v ∷ [])) []
  unfolding held_with port_parameter
  more takes h v few =
      let n : length (h ++ v ∷ []) ≡ suc (length h) = length-snoc h v in
      stepped h v
      ∙ rw (
        count_takes_some c takes,
        lt-ltb (length (h ++ v ∷ [])) (count c) (omega arith),
        on_some c b.port (h ++ v ∷ []) (omega arith),
      )

  last : 1 ≤ count c → (h : List ℕ) (v : ℕ) → length h + 1 ≡ count c
      → port_step (on c b.port h) (write a v) ≡ accepted idle (command c (h ++ v ∷ []) ∷ [])
  unfolding held_with port_parameter
  last takes h v all =
      let n : length (h ++ v ∷ []) ≡ suc (length h) = length-snoc h v in
      stepped h v ∙ rw (count_takes_some c takes, le-ltb (length (h ++ v ∷ [])) (count c) (omega arith))

  -- by the port that is begun
  by-port : {P : Type 0} → (b.port ≡ 0 → P) → ((b.port ≡ 0 → ⊥) → b.port ≡ c → P) → P
  by-port {P} none this = by (eqb b.port 0) refl t.own
    where
      by : (z : Bool) → eqb b.port 0 ≡ z → (z || eqb b.port c) ≡ true → P
      by true e o = none (eqb-true b.port 0 e)
      by false e o = this (eqb-false b.port 0 e) (eqb-true b.port c o)

  held-here : (b.port ≡ 0 → ⊥) → b.port ≡ c → b.count < count c
  held-here n e = subst (λ (x : ℕ). b.count < count x) e (t.fit.port-held n)

  pub held-fewer : 1 ≤ count c → b.count < count c
  held-fewer h = by-port (λ z. omega (arith, h, t.fit.idle-held k z)) held-here

  none-held : count c ≡ 0 → b.count ≡ 0
  none-held h = by-port (t.fit.idle-held k) (λ n e. absurd (omega (arith, h, held-here n e)))

  here : pending_due b old ≡ on c b.port (take b.count old)
  here = pending-idle b k t.fit old ∙ rw d (by b.count refl)
    where
      by : (n : ℕ) → b.count ≡ n → port_pending b.port (take n old) ≡ on c b.port (take n old)
      by zero e = refl
      by (suc n) e =
          on-own c b.port
          (by-port (λ z. absurd (omega (arith, e, t.fit.idle-held k z))) (λ n is. is)) (take (suc n) old)

  -- behind a command that is complete nothing is pending
  abbrev behind : Begun
  behind = begun b.queue 0 b.dummy 0

  fit_then : Fit behind
  fit_then = fit-behind b.queue b.dummy t.fit.no_hole

  idle_then : (held : List ℕ) → pending_due behind held ≡ idle
  idle_then held = pending-behind b.queue b.dummy held ∙ rw (commands-none b.queue k t.fit.no_hole, d)

  complete : {new : List ℕ} (many : ℕ) → 1 ≤ many → i + many ≤ length log / 2 → length new ≡ length old
      → AllTaken port_step (pending_due b old) (take many (drop i (writes log))) idle
      (command c (take (count c) new) ∷ [])
      → Turned port_step (writes log) i b old (turn (i + many) behind (Runs c)) new
  complete {new} many some inside same taken =
      turned_on many behind (Runs c) (command c (take (count c) new) ∷ []) refl refl same
      (omega (arith, inside, length-writes log))
      (rw (idle_then new) taken)
      (rw (due-idle b k t.fit, given-some c t.some new, due-idle behind k fit_then)) fit_then (λ n. some)
      (omega (arith, some, inside, length-writes log))

  -- a port without parameters
  pub write-none : count c ≡ 0 → Turned port_step (writes log) i b old (turn (i + 1) behind (Runs c)) old
  write-none z =
      let w : i < length (writes log) = omega (arith, t.inside, length-writes log) in
      complete 1 (omega arith) (omega (arith, t.inside)) refl
      (rw (next_one (writes log) i (write 0 0) w, write-is log i t.inside, here, none-held z, z)
      (one-item (at_once (get_or log (2 * i + 1) 0) z) no_item))

  module _ (takes : 1 ≤ count c) {new : List ℕ} (many : ℕ) (some : 1 ≤ many)
      (inside : i + many ≤ length log / 2) (h : Held (write a) (writes log) i old b.count new many) where
    -- the last parameters
    pub write-last : b.count + many ≡ count c
        → Turned port_step (writes log) i b old (turn (i + many) behind (Runs c)) new
    write-last e =
        complete many some inside (same_length h)
        (rw here
        (all-taken port_step (write a) (on c b.port) (count c) (more takes) h t.long
        (count_small c) idle (λ h. command c h ∷ []) (last takes) some e))

    -- others are lacking
    pub write-more : b.count + many < count c
        → Turned port_step (writes log) i b old (turn (i + many) (begun b.queue (b.count + many) b.dummy c) GoesOn) new
    write-more e =
        turned_on many n GoesOn [] refl refl (same_length h) (omega (arith, inside, length-writes log))
        (rw (here, there)
        (some-taken port_step (write a) (on c b.port) (count c) (more takes) h t.long
        (count_small c) e))
        (rw (due-idle b k t.fit, given-none new, due-idle n k fit_n)) fit_n (λ e. some)
        (omega (arith, some, inside, length-writes log))
      where
        n : Begun
        n = begun b.queue (b.count + many) b.dummy c

        fit_n : Fit n
        fit_n = record {
          no_hole = t.fit.no_hole;
          fewer = λ u. never (sym k ∙ u);
          none-held = λ u. never (sym k ∙ u);
          no_port = λ u. never (sym k ∙ u);
          idle-held = λ u z. absurd (t.some z);
          port-held = λ p. e;
        }

        there : pending_due n new ≡ on c b.port (take (b.count + many) new)
        there =
            let size : length (take (b.count + many) new) ≡ b.count + many =
            length-take-le (b.count + many) new (omega (arith, e, count_small c, t.long, same_length h)) in
            pending-idle n k fit_n new
            ∙ rw d (on_some c b.port (take (b.count + many) new) (omega (arith, some, size)))
