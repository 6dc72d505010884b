-- What the functions inside the unpacker require and promise, of one command word and the words behind it: nothing here
-- is cited by a contract outside.
use Rattle.std.specs.Prelude.{Bool, false, cond, Option, Some, None, ◌≡◌}
use Rattle.std.specs.Prelude.{List, [], ◌∷◌, length, get_or, take, drop, ℕ, ◌+◌, ◌≤◌, ◌<◌, eqb}
use Rattle.std.proofs.lemmas.List.Edits.{sets}
use Rattle.commands.specs.Commands.{count, command_bytes, hole}
use Rattle.stream.specs.Pending.{commands_of}
use Rattle.stream.specs.Command.{takes_none, Command, command}
use Rattle.stream.specs.Read.{list_commands}
use Rattle.stream.specs.Pack.{count_if, or_none}
use Rattle.stream.specs.Unpack.{writes_for, commands_log}
use Rattle.unpacker.specs.declared.Extent.{Extent}
use Rattle.unpacker.specs.declared.Places.{Places}

-- how many words behind their command word some commands take, with the dummy; b: the command before them takes none
abbrev pub words_behind : Bool → List ℕ → ℕ
words_behind b [] = count_if b 0
words_behind b (c ∷ q) = count c + words_behind (takes_none c) q

-- how many port writes they are
abbrev pub writes_of : List ℕ → ℕ
writes_of [] = 0
writes_of (c ∷ q) = writes_for (count c) + writes_of q

-- the extent of a word's commands, none where it has a hole
abbrev pub extent_of : ℕ → Option Extent
extent_of w =
    let q : List ℕ = commands_of w in
    cond (hole (command_bytes w)) None (Some (record { words = words_behind false q; writes = writes_of q }))

-- what is written to the port of a command with these parameters
abbrev pub values_of : List ℕ → List ℕ
values_of ps = cond (eqb (length ps) 0) (0 ∷ []) ps

-- the commands, with their parameters from the words behind
abbrev pub commands_from : List ℕ → List ℕ → List Command
commands_from [] l = []
commands_from (c ∷ q) l = command c (take (count c) l) ∷ commands_from q (drop (count c) l)

-- the commands of the i-th word of a list, a command word
unfoldable pub word_commands : List ℕ → ℕ → List Command
word_commands l i = commands_from (commands_of (get_or l i 0)) (drop (i + 1) l)

-- the place behind that word and the words that are its commands'
unfoldable pub behind_word : List ℕ → ℕ → ℕ
behind_word l i = i + 1 + words_behind false (commands_of (get_or l i 0))

-- the log that a list which is read from word i on is unpacked to
abbrev pub log_from : ℕ → List ℕ → List ℕ
log_from i l = commands_log (or_none (list_commands i l))

-- the i-th word is a command word without a hole, its words are there, and its port writes fit the buffer from `to` on
pub record WordFits (l : List ℕ) (i to : ℕ) (old : List ℕ) : Type 0 where
  pub within : i < length l
  pub no_hole : hole (command_bytes (get_or l i 0)) ≡ false
  pub all_there : behind_word l i ≤ length l
  pub room : to + length (commands_log (word_commands l i)) ≤ length old

-- its port writes are stored
pub record PutWord (l : List ℕ) (i to : ℕ) (old new : List ℕ) (r : Places) : Type 0 where
  pub next : r.next ≡ behind_word l i
  pub end : r.to ≡ to + length (commands_log (word_commands l i))
  pub buffer : new ≡ sets old to (commands_log (word_commands l i))
