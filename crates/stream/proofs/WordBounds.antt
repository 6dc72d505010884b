-- The packed words of a log of 32-bit words are 32-bit words.
use mathlib.Core.Bool.{Bool, true, false, cond}
use mathlib.Core.List.{List, [], ◌∷◌, ◌++◌}
use mathlib.Core.Path.{◌≡◌, refl, sym, subst, ◌∙◌}
use Prim.Native.Nat.{ℕ, ◌^◌, ◌≤◌, ◌<◌}
use native.Mathlib.Omega.{arith}
use lib.ListN.{length}
use Rattle.words.specs.Words.{word_of, AllBelow}
use Rattle.words.proofs.Below.{below_append, below_parts}
use Rattle.commands.specs.Commands.{command_at, port}
use Rattle.commands.proofs.Table.{known-range}
use Rattle.stream.specs.Command.{takes_none, Command, Write}
use Rattle.stream.specs.Read.{writes}
use Rattle.stream.specs.Pack.{queue_of, parameters_of, ends_with_none, dummy_if, group_words, all_words}
use Rattle.stream.specs.Pack.{packed_words, pack}
use Rattle.stream.specs.Unpack.{writes_to, command_writes, all_writes, zeroed}
use Rattle.stream.proofs.StepLaws.{AllComplete}
use Rattle.stream.proofs.CommandLaws.{takes_none-count}
use Rattle.stream.proofs.PackLaws.{Grouped, no_group, group, grouped, complete-parts, parameters-append}
use Rattle.stream.proofs.Demands.{packed-commands}

-- the values of port writes
values : List Write → List ℕ
values [] = []
values (w ∷ ws) = w.value ∷ values ws

-- those of a log, once the values that ports without parameters get are 0
zeroed-values : (log : List ℕ) → AllBelow (2 ^ 32) log → AllBelow (2 ^ 32) (values (zeroed (writes log)))
unfolding values
zeroed-values [] h = tt
zeroed-values (a ∷ []) h = tt
zeroed-values (a ∷ v ∷ l) h = (by (takes_none (command_at a)), zeroed-values l h.1.1)
  where
    by : (t : Bool) → cond t 0 v < 2 ^ 32
    by true = omega arith
    by false = h.1.0

values_to : (a : ℕ) (vs : List ℕ) (l : List Write) → values (writes_to a vs ++ l) ≡ vs ++ values l
unfolding values
values_to a [] l = refl
values_to a (v ∷ vs) l = λ i. v ∷ values_to a vs l i

-- and those of commands, whose parameters are among them
parameters_below : (cs : List Command) → AllBelow (2 ^ 32) (values (all_writes cs)) → AllComplete cs
    → AllBelow (2 ^ 32) (parameters_of cs)
unfolding command_writes
parameters_below [] h w = tt
parameters_below (c ∷ cs) h w = by (takes_none c.byte) refl (λ k. parameters_below cs k w.1)
  where
    split : (vs : List ℕ) → values (command_writes c ++ all_writes cs) ≡ vs ++ values (all_writes cs)
        → AllBelow (2 ^ 32) vs × AllBelow (2 ^ 32) (values (all_writes cs))
    split vs e = below_parts (2 ^ 32) vs (values (all_writes cs)) (subst (AllBelow (2 ^ 32)) e h)

    none : (l : List ℕ) → length l ≡ 0 → AllBelow (2 ^ 32) l
    none [] z = tt
    none (x ∷ l) z = absurd (omega (arith, z))

    by : (t : Bool) → takes_none c.byte ≡ t
        → (AllBelow (2 ^ 32) (values (all_writes cs)) → AllBelow (2 ^ 32) (parameters_of cs))
        → AllBelow (2 ^ 32) (c.parameters ++ parameters_of cs)
    by true e rest =
        let all = split (0 ∷ []) (rw e (values_to (port c.byte) (0 ∷ []) (all_writes cs))) in
        below_append (2 ^ 32) c.parameters (parameters_of cs)
        (none c.parameters (w.0.all-given ∙ takes_none-count c.byte e))
        (rest all.1)
    by false e rest =
        let all = split c.parameters (rw e (values_to (port c.byte) c.parameters (all_writes cs))) in
        below_append (2 ^ 32) c.parameters (parameters_of cs) all.0 (rest all.1)

-- a command word: one to four bytes
queue_below : (g : List Command) → AllComplete g → length g ≤ 4 → word_of (queue_of g) < 2 ^ 32
queue_below [] w n = omega arith
queue_below (a ∷ []) w n = omega (arith, known-range a.byte w.0.is_known)
queue_below (a ∷ b ∷ []) w n =
    omega (arith, known-range a.byte w.0.is_known, known-range b.byte w.1.0.is_known)
queue_below (a ∷ b ∷ c ∷ []) w n =
    omega (
      arith,
      known-range a.byte w.0.is_known,
      known-range b.byte w.1.0.is_known,
      known-range c.byte w.1.1.0.is_known,
    )
queue_below (a ∷ b ∷ c ∷ d ∷ []) w n =
    omega (
      arith,
      known-range a.byte w.0.is_known,
      known-range b.byte w.1.0.is_known,
      known-range c.byte w.1.1.0.is_known,
      known-range d.byte w.1.1.1.0.is_known,
    )
queue_below (a ∷ b ∷ c ∷ d ∷ e ∷ g) w n = absurd (omega (arith, n))

dummy_below : (b : Bool) → AllBelow (2 ^ 32) (dummy_if b)
dummy_below true = (omega arith, tt)
dummy_below false = tt

groups_below : {cs : List Command} {gs : List (List Command)} → Grouped cs gs → AllComplete cs
    → AllBelow (2 ^ 32) (parameters_of cs) → AllBelow (2 ^ 32) (all_words gs)
unfolding group_words
groups_below no_group w h = tt
groups_below (group {cs = cs} {gs = gs} g n m r) w h =
    let whole = complete-parts g cs w in
    let parts = below_parts (2 ^ 32) (parameters_of g) (parameters_of cs)
    (subst (AllBelow (2 ^ 32)) (parameters-append g cs) h) in
    below_append (2 ^ 32) (group_words g) (all_words gs) (
      queue_below g whole.0 m,
      below_append (2 ^ 32) (parameters_of g) (dummy_if (ends_with_none false g)) parts.0
          (dummy_below (ends_with_none false g)),
    )
    (groups_below r whole.1 parts.1)

pub packed_below : (capacity : ℕ) (log : List ℕ) → AllBelow (2 ^ 32) log → (pack capacity log).number ≡ 0
    → AllBelow (2 ^ 32) (pack capacity log).words
unfolding packed_words
packed_below capacity log h z =
    let read = packed-commands capacity log z in
    subst (AllBelow (2 ^ 32)) (sym read.packed)
    (groups_below (grouped read.cs) read.all-complete
    (parameters_below read.cs (subst (λ (l : List Write). AllBelow (2 ^ 32) (values l)) read.are-writes
    (zeroed-values log h)) read.all-complete))
