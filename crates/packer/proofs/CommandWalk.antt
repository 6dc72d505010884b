-- A command of a log, write by write.
use mathlib.Core.Bool.{Bool, true, false, cond}
use mathlib.Core.List.{List, [], ◌∷◌, ◌++◌}
use mathlib.Core.Path.{◌≡◌, refl, sym, ap, ◌∙◌}
use Prim.Native.Nat.{ℕ, zero, suc, ◌+◌, ◌≤◌, ◌<◌, min}
use native.Mathlib.Nat.{add_assoc}
use native.Mathlib.Numerals.{add-one}
use native.Mathlib.Omega.{arith}
use lib.Dec.{ltb, eqb}
use lib.ListN.{length, take, drop, length-drop, drop_of_length-le}
use lib.Seq.{get_or-drop, length-take-le}
use borrow.Author.Tests.{eq-eqb, ne_eqb, lt-ltb, le-ltb, ltb-true, ltb-false, eqb-true, eqb-false}
use Rattle.words.proofs.Over.{drop-next}
use Rattle.commands.specs.Commands.{count, port, command_at}
use Rattle.commands.proofs.Commands.{port_of_command}
use Rattle.stream.specs.Pending.{Pending, idle, port_pending}
use Rattle.stream.specs.Command.{takes_none, Command, command, Write, write}
use Rattle.stream.specs.Step.{accepted, case_step, held_with, port_parameter, port_step}
use Rattle.stream.specs.Read.{Read, stopped, commands, prepend, scan}
use Rattle.stream.specs.Unpack.{writes_for}
use Rattle.stream.proofs.CommandLaws.{takes_none-count, takes_some_count, count_takes_some}
use Rattle.stream.proofs.ReadLaws.{stopped-not, prepend-none, idle_any}
use Rattle.stream.proofs.UnpackLaws.{writes_for_none, writes_for_some, writes_for_bounds}
use Rattle.packer.specs.Inside.{rest_commands, values, write_at, byte_at, Begins}
use Rattle.packer.proofs.ValueLaws.{length-values, values-more}

-- the values of the first j writes from i on, as far as command c takes them
abbrev held_at : List Write → ℕ → ℕ → ℕ → List ℕ
held_at ws i c j = values (take (min j (count c)) (drop i ws))

-- what is read of a log from write i on, once j writes from there on have gone to the port of c
unfoldable pub on_port : List Write → ℕ → ℕ → ℕ → Read
on_port ws i c j =
    cond (ltb j (count c))
    (scan port_step (drop (i + j) ws) (i + j) i (port_pending c (held_at ws i c j)))
    (prepend (command c (held_at ws i c j) ∷ []) (scan port_step (drop (i + j) ws) (i + j) i idle))

-- a write to the right port is never refused
case_parameter : {R : Type 0} (c : ℕ) (h : List ℕ) (f : ℕ → R) (k : Pending → List Command → R)
    → case_step (port_parameter c h) f k
    ≡ cond (ltb (length h) (count c)) (k (port_pending c h) []) (k idle (command c h ∷ []))
unfolding port_parameter
case_parameter c h f k = by (ltb (length h) (count c))
  where
    by : (t : Bool)
        → case_step (cond t (accepted (port_pending c h) []) (accepted idle (command c h ∷ []))) f k
        ≡ cond t (k (port_pending c h) []) (k idle (command c h ∷ []))
    by true = refl
    by false = refl

-- the first value
held_first : (c : ℕ) (w : Write) (l : List Write) → held_with c [] w.value ≡ values (take (min 1 (count c)) (w ∷ l))
unfolding held_with
held_first c w l = by (takes_none c) refl
  where
    by : (t : Bool) → takes_none c ≡ t → cond t [] (w.value ∷ []) ≡ values (take (min 1 (count c)) (w ∷ l))
    by true e = rw (takes_none-count c e)
    by false e = let f : min 1 (count c) ≡ 1 = omega (arith, takes_some_count c e) in rw f

one_of : (c : ℕ) → ltb (min 1 (count c)) (count c) ≡ ltb 1 (count c)
one_of c = by (ltb 1 (count c)) refl
  where
    by : (t : Bool) → ltb 1 (count c) ≡ t → ltb (min 1 (count c)) (count c) ≡ t
    by true e = lt-ltb (min 1 (count c)) (count c) (omega (arith, ltb-true 1 (count c) e))
    by false e = le-ltb (min 1 (count c)) (count c) (omega (arith, ltb-false 1 (count c) e))

module _ (ws : List Write) (i : ℕ) where
  length-held : (c j : ℕ) → i + j ≤ length ws → length (held_at ws i c j) ≡ min j (count c)
  length-held c j h =
      length-values (take (min j (count c)) (drop i ws))
      ∙ length-take-le (min j (count c)) (drop i ws) (rw (length-drop i ws) (omega arith))

  -- a value more
  held_more : (c j : ℕ) → i + j < length ws → j < count c
      → held_at ws i c (j + 1) ≡ held_at ws i c j ++ (write_at ws (i + j)).value ∷ []
  held_more c j h n =
      let e : min (j + 1) (count c) ≡ suc j = omega arith in
      let f : min j (count c) ≡ j = omega arith in
      let g : j < length (drop i ws) = rw (length-drop i ws) (omega arith) in
      rw (e, f) (values-more (drop i ws) j g ∙ rw (get_or-drop i ws j (write 0 0)))

  no_command : i < length ws → byte_at ws i ≡ 0 → rest_commands i ws ≡ stopped 5 i
  unfolding rest_commands port_step
  no_command h e = rw (drop-next ws i (write 0 0) h, e)

  begins : (c : ℕ) → i < length ws → byte_at ws i ≡ c → (c ≡ 0 → ⊥) → rest_commands i ws ≡ on_port ws i c 1
  unfolding rest_commands port_step on_port
  begins c h e n =
      let k : length (values (take (min 1 (count c)) (write_at ws i ∷ drop (i + 1) ws))) ≡ min 1 (count c) =
      rw (drop-next ws i (write 0 0) h) at (length-held c 1 (omega arith)) in
      rw (
        drop-next ws i (write 0 0) h,
        e,
        ne_eqb c 0 n,
        held_first c (write_at ws i) (drop (i + 1) ws),
        case_parameter c (values (take (min 1 (count c)) (write_at ws i ∷ drop (i + 1) ws))) (λ m. stopped m i)
            (λ t cs. prepend cs (scan port_step (drop (i + 1) ws) (suc i) i t)),
        k,
        one_of c,
        prepend-none,
        ← add-one i,
      )

  -- the command is complete
  complete : (c j : ℕ) → count c ≤ j
      → on_port ws i c j ≡ prepend (command c (values (take (count c) (drop i ws))) ∷ []) (rest_commands (i + j) ws)
  unfolding on_port rest_commands
  complete c j h =
      let e : min j (count c) ≡ count c = omega arith in
      rw (le-ltb j (count c) h, e, idle_any port_step (drop (i + j) ws) (i + j) i)

  module _ (c j : ℕ) (few : j < count c) (is : c ≡ 0 → ⊥) where
    -- a write more is looked at
    looks : on_port ws i c j ≡ scan port_step (drop (i + j) ws) (i + j) i (port_pending c (held_at ws i c j))
    unfolding on_port
    looks = rw (lt-ltb j (count c) few)

    ends : length ws ≤ i + j → on_port ws i c j ≡ stopped 8 i
    ends h = looks ∙ rw (drop_of_length-le ws h, ne_eqb c 0 is)

    no_port : i + j < length ws → byte_at ws (i + j) ≡ 0 → on_port ws i c j ≡ stopped 5 (i + j)
    unfolding port_step
    no_port h e = looks ∙ rw (drop-next ws (i + j) (write 0 0) h, e)

    other_port : i + j < length ws → (byte_at ws (i + j) ≡ 0 → ⊥) → (byte_at ws (i + j) ≡ c → ⊥)
        → on_port ws i c j ≡ stopped 6 (i + j)
    unfolding port_step
    other_port h n m =
        looks
        ∙ rw (
          drop-next ws (i + j) (write 0 0) h,
          ne_eqb (byte_at ws (i + j)) 0 n,
          ne_eqb c 0 is,
          ne_eqb c (byte_at ws (i + j)) (λ e. m (sym e)),
        )

    taking : held_with c (held_at ws i c j) (write_at ws (i + j)).value
        ≡ held_at ws i c j ++ (write_at ws (i + j)).value ∷ []
    unfolding held_with
    taking = rw (count_takes_some c (omega arith))

    goes_on : i + j < length ws → byte_at ws (i + j) ≡ c → on_port ws i c j ≡ on_port ws i c (j + 1)
    unfolding port_step on_port
    goes_on h e =
        let more : held_at ws i c j ++ (write_at ws (i + j)).value ∷ [] ≡ held_at ws i c (j + 1) =
        sym (held_more c j h few) in
        let k : length (held_at ws i c (j + 1)) ≡ j + 1 = length-held c (j + 1) (omega arith) ∙ omega arith in
        looks
        ∙ rw (
          drop-next ws (i + j) (write 0 0) h,
          e,
          ne_eqb c 0 is,
          eq-eqb c c refl,
          taking,
          case_parameter c (held_at ws i c j ++ (write_at ws (i + j)).value ∷ []) (λ m. stopped m (i + j))
              (λ t cs. prepend cs (scan port_step (drop (i + j + 1) ws) (suc (i + j)) i t)),
          more,
          k,
          ← add-one (i + j),
          prepend-none,
          add_assoc i j 1,
        )

-- ---- the loop that looks for the next command: j writes from i on, up to `next`, have gone to one port, that of a
-- command of n parameters

pub record Walking (ws : List Write) (i address n next j : ℕ) : Type 0 where
  pub address_is : address ≡ (write_at ws i).address
  pub is-command : byte_at ws i ≡ 0 → ⊥
  pub counted : n ≡ count (byte_at ws i)
  pub next-is : next ≡ i + j
  pub some : 1 ≤ j
  pub most : j ≤ writes_for n
  pub within : next ≤ length ws
  pub read : rest_commands i ws ≡ on_port ws i (byte_at ws i) j

-- two addresses of one command are one
same-port : (a b : ℕ) → (command_at a ≡ 0 → ⊥) → (command_at b ≡ 0 → ⊥) → command_at a ≡ command_at b → a ≡ b
same-port a b n m e =
    (port_of_command a n).is-port ∙ ap port e ∙ sym (port_of_command b m).is-port

module _ (ws : List Write) (i : ℕ) (h : i < length ws) where
  pub walk_none : byte_at ws i ≡ 0 → rest_commands i ws ≡ stopped 5 i
  walk_none z = no_command ws i h z

  pub walk_start : {n : ℕ} → (byte_at ws i ≡ 0 → ⊥) × (n ≡ count (byte_at ws i))
      → Walking ws i (write_at ws i).address n (i + 1) 1
  walk_start {n} p = record {
    address_is = refl;
    is-command = p.0;
    counted = p.1;
    next-is = refl;
    some = omega arith;
    most = omega (arith, writes_for_bounds n);
    within = omega arith;
    read = begins ws i (byte_at ws i) h refl p.0;
  }

module _ {ws : List Write} {i address n next j : ℕ} (w : Walking ws i address n next j) where
  pub walk_end : n ≤ j → Begins ws i next n
  walk_end h = by n refl
    where
      begun : j ≡ writes_for n → Begins ws i next n
      begun e = record {
        read = w.read ∙ complete ws i (byte_at ws i) j (omega (arith, w.counted)) ∙ rw (w.next-is, w.counted);
        counted = w.counted;
        next-is = omega (arith, w.next-is);
        within = w.within;
      }

      by : (m : ℕ) → n ≡ m → Begins ws i next n
      by zero e = begun (omega (arith, writes_for_none n e, w.most, w.some))
      by (suc m) e = begun (omega (arith, writes_for_some n (omega arith), w.most))

  module _ (t : j < n) where
    few : j < count (byte_at ws i)
    few = omega (arith, w.counted)

    pub walk_short : length ws ≤ next → rest_commands i ws ≡ stopped 8 i
    walk_short h = w.read ∙ ends ws i (byte_at ws i) j few w.is-command (omega (arith, w.next-is))

    module _ (h : next < length ws) where
      inside : i + j < length ws
      inside = omega (arith, w.next-is)

      pub walk_no_port : byte_at ws next ≡ 0 → rest_commands i ws ≡ stopped 5 next
      walk_no_port z =
          w.read ∙ rw (w.next-is) (no_port ws i (byte_at ws i) j few w.is-command inside (rw w.next-is at z))

      pub walk_other : ((write_at ws next).address ≡ address → ⊥) → (byte_at ws next ≡ 0 → ⊥)
          → rest_commands i ws ≡ stopped 6 next
      walk_other d z =
          w.read
          ∙ rw (w.next-is) (other_port ws i (byte_at ws i) j few w.is-command inside (rw w.next-is at z)
          (λ q. (rw w.next-is at d) (same-port (write_at ws (i + j)).address (write_at ws i).address
          (rw w.next-is at z) w.is-command q ∙ sym w.address_is)))

      pub walk_more : (write_at ws next).address ≡ address → Walking ws i address n (next + 1) (j + 1)
      walk_more q = record {
        address_is = w.address_is;
        is-command = w.is-command;
        counted = w.counted;
        next-is = omega (arith, w.next-is);
        some = omega arith;
        most = omega (arith, writes_for_some n (omega arith));
        within = omega arith;
        read = w.read
            ∙ goes_on ws i (byte_at ws i) j few w.is-command inside
            (ap command_at ((rw w.next-is at q) ∙ w.address_is));
      }

-- ---- in an accepted log a command begins where none is pending

-- all writes of the command are there
record PortRead (ws : List Write) (i c j : ℕ) : Type 0 where
  there : i + writes_for (count c) ≤ length ws
  same : on_port ws i c j ≡ on_port ws i c (writes_for (count c))

last-write : (n j : ℕ) → 1 ≤ j → j ≤ writes_for n → n ≤ j → j ≡ writes_for n
last-write zero j s m h = omega (arith, writes_for_none 0 refl)
last-write (suc n) j s m h = omega (arith, writes_for_some (suc n) (omega arith))

-- the same of one write more
abbrev Further : List Write → ℕ → ℕ → ℕ → List Command → Type 0
Further ws i c j all =
    j + 1 ≤ writes_for (count c) → i + (j + 1) ≤ length ws → on_port ws i c (j + 1) ≡ commands all
    → PortRead ws i c (j + 1)

module _ (ws : List Write) (i c j : ℕ) (all : List Command) (z : c ≡ 0 → ⊥)
    (e : on_port ws i c j ≡ commands all) where
  at_last : 1 ≤ j → j ≤ writes_for (count c) → i + j ≤ length ws → count c ≤ j → PortRead ws i c j
  at_last s m h q =
      let k = last-write (count c) j s m q in
      record { there = omega arith; same = ap (on_port ws i c) k }

  one_further : (few : j < count c) → Further ws i c j all → PortRead ws i c j
  one_further few more =
      by (ltb (i + j) (length ws)) (eqb (byte_at ws (i + j)) 0) (eqb (byte_at ws (i + j)) c) refl refl refl
    where
      by : (t u v : Bool) → ltb (i + j) (length ws) ≡ t → eqb (byte_at ws (i + j)) 0 ≡ u
          → eqb (byte_at ws (i + j)) c ≡ v → PortRead ws i c j
      by false u v a b d = stopped-not (sym (ends ws i c j few z (ltb-false (i + j) (length ws) a)) ∙ e)
      by true true v a b d =
          let t : i + j < length ws = ltb-true (i + j) (length ws) a in
          stopped-not (sym (no_port ws i c j few z t (eqb-true (byte_at ws (i + j)) 0 b)) ∙ e)
      by true false false a b d =
          let t : i + j < length ws = ltb-true (i + j) (length ws) a in
          stopped-not
          (sym (other_port ws i c j few z t (eqb-false (byte_at ws (i + j)) 0 b) (eqb-false (byte_at ws (i + j)) c d))
          ∙ e)
      by true false true a b d =
          let t : i + j < length ws = ltb-true (i + j) (length ws) a in
          let g = goes_on ws i c j few z t (eqb-true (byte_at ws (i + j)) c d) in
          let r = more (omega (arith, writes_for_some (count c) (omega arith))) (omega arith) (sym g ∙ e) in
          record { there = r.there; same = g ∙ r.same }

-- by the number of writes that may still come
port-read : (left : ℕ) (ws : List Write) (i c j : ℕ) (all : List Command) → (c ≡ 0 → ⊥) → count c ≤ j + left → 1 ≤ j
    → j ≤ writes_for (count c) → i + j ≤ length ws → on_port ws i c j ≡ commands all → PortRead ws i c j
port-read zero ws i c j all z f s m h e = at_last ws i c j all z e s m h (omega arith)
port-read (suc left) ws i c j all z f s m h e =
    by (ltb j (count c)) refl (port-read left ws i c (j + 1) all z (omega arith) (omega arith))
  where
    by : (t : Bool) → ltb j (count c) ≡ t → Further ws i c j all → PortRead ws i c j
    by false a more = at_last ws i c j all z e s m h (ltb-false j (count c) a)
    by true a more = one_further ws i c j all z e (ltb-true j (count c) a) more

pub read-command : (ws : List Write) (i : ℕ) (all : List Command) → i < length ws → rest_commands i ws ≡ commands all
    → byte_at ws i ≡ 0 → ⊥
read-command ws i all h e z = stopped-not (sym (no_command ws i h z) ∙ e)

pub read-begins : (ws : List Write) (i : ℕ) (all : List Command) → i < length ws → rest_commands i ws ≡ commands all
    → Begins ws i (i + writes_for (count (byte_at ws i))) (count (byte_at ws i))
read-begins ws i all h e =
    let z : byte_at ws i ≡ 0 → ⊥ = read-command ws i all h e in
    let n = count (byte_at ws i) in
    let g = begins ws i (byte_at ws i) h refl z in
    let bounds = writes_for_bounds n in
    let r = port-read n ws i (byte_at ws i) 1 all z (omega arith) (omega arith) (omega (arith, bounds)) (omega arith)
    (sym g ∙ e) in
    record {
      read = g ∙ r.same ∙ complete ws i (byte_at ws i) (writes_for n) (omega (arith, bounds));
      counted = refl;
      next-is = refl;
      within = r.there;
    }
