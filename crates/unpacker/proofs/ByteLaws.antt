-- A command word's bytes, the lowest first: its commands are the bytes up to the first that is none.
use mathlib.Core.Bool.{Bool, true, false}
use mathlib.Core.List.{List, [], ◌∷◌}
use mathlib.Core.Path.{◌≡◌, refl, sym, ap}
use Prim.Native.Nat.{ℕ, ◌≤◌}
use native.Mathlib.Omega.{arith}
use mir.Syntax.{w32}
use mir.Val.{bool_byte}
use Rattle.std.specs.Prelude.{map, Option, Some, None, is_some, unwrap_or}
use Rattle.std.specs.Int.{to_le_bytes}
use Rattle.commands.specs.Commands.{lookup, known, count, counted, command_bytes, any_command, hole}
use Rattle.commands.proofs.Table.{count_small}
use Rattle.commands.proofs.Commands.{counted-known, counted-unknown, le_bytes}
use Rattle.stream.specs.Pending.{up_to_last, commands_of}
use Rattle.stream.specs.Pack.{count_if}
use Rattle.stream.proofs.PendingLaws.{known-not-zero}

-- the commands of some bytes
abbrev pub commands_in : List ℕ → List ℕ
commands_in bs = up_to_last (map counted bs)

-- the bytes have a hole; some of them are commands
abbrev pub holed : List ℕ → Bool
holed bs = hole (map counted bs)

abbrev pub any_known : List ℕ → Bool
any_known bs = any_command (map counted bs)

module _ (w : ℕ) where
  pub word-commands : commands_in (to_le_bytes w32 w) ≡ commands_of w
  unfolding commands_of command_bytes
  word-commands = ap commands_in (le_bytes w)

  pub word-hole : holed (to_le_bytes w32 w) ≡ hole (command_bytes w)
  unfolding command_bytes
  word-hole = ap holed (le_bytes w)

-- a byte that is a command, before others
module _ (b : ℕ) (bs : List ℕ) (k : known b ≡ true) where
  pub commands-first : commands_in (b ∷ bs) ≡ b ∷ commands_in bs
  commands-first = rw (counted-known b k, known-not-zero b k)

  pub hole-behind : holed (b ∷ bs) ≡ holed bs
  unfolding hole
  hole-behind = rw (counted-known b k, known-not-zero b k)

  pub known-first : any_known (b ∷ bs) ≡ true
  known-first = rw (counted-known b k, known-not-zero b k)

-- and one that is none
none-behind : (bs : List ℕ) → any_command bs ≡ false → up_to_last bs ≡ []
none-behind [] e = refl
none-behind (b ∷ bs) e = rw e

module _ (b : ℕ) (bs : List ℕ) (k : known b ≡ false) where
  pub hole-of-unknown : holed (b ∷ bs) ≡ any_known bs
  unfolding hole
  hole-of-unknown = rw (counted-unknown b k)

  pub any-of-unknown : any_known (b ∷ bs) ≡ any_known bs
  any-of-unknown = rw (counted-unknown b k)

pub none_known : (bs : List ℕ) → any_known bs ≡ false → commands_in bs ≡ []
none_known bs = none-behind (map counted bs)

-- what a byte's lookup says
pub takes : (b n : ℕ) → Some n ≡ lookup b → (known b ≡ true) × (n ≡ count b) × (n ≤ 32)
unfolding known count
takes b n e =
    let k : n ≡ count b = ap (λ (o : Option ℕ). unwrap_or o 0) e in
    (ap is_some (sym e), k, omega (arith, count_small b))

pub no_command : (b : ℕ) → None ≡ lookup b → known b ≡ false
unfolding known
no_command b e = ap is_some (sym e)

-- a dummy is one word
pub dummy_word : (b : Bool) → bool_byte b ≡ count_if b 0
dummy_word true = refl
dummy_word false = refl
