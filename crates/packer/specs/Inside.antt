-- What the functions inside the packer require and promise, of a log from one of its port writes on: nothing here is
-- cited by a contract outside.
use Rattle.std.specs.Prelude.{List, [], ◌∷◌, ◌⊎◌, ◌≡◌, ℕ, ◌+◌, ◌≤◌, ◌<◌, length, get_or, take, drop}
use Rattle.words.specs.Words.{over}
use Rattle.commands.specs.Commands.{count, command_at}
use Rattle.stream.specs.declared.Refused.{Refused}
use Rattle.stream.specs.Refusal.{number_of}
use Rattle.stream.specs.Pending.{idle}
use Rattle.stream.specs.Command.{Command, command, Write, write}
use Rattle.stream.specs.Step.{port_step}
use Rattle.stream.specs.Read.{Read, stopped, prepend, scan}
use Rattle.stream.specs.Pack.{group_words, packed_words, or_none, IsRead}
use Rattle.stream.specs.Unpack.{writes_for}

-- a log as the code reads it: an address and a value, an address and a value
abbrev pub writes_of : List (List ℕ) → List Write
writes_of [] = []
writes_of (p ∷ ps) = write (get_or p 0 0) (get_or p 1 0) ∷ writes_of ps

-- the commands of a log from write i on, where none is pending; places count the writes from the first
unfoldable pub rest_commands : ℕ → List Write → Read
rest_commands i ws = scan port_step (drop i ws) i 0 idle

-- and the reading stops with this refusal
abbrev pub Stops : List Write → ℕ → Refused → Type 0
Stops ws i r = rest_commands i ws ≡ stopped (number_of r.refusal) r.place

abbrev pub values : List Write → List ℕ
values [] = []
values (w ∷ ws) = w.value ∷ values ws

-- ---- one command

abbrev pub write_at : List Write → ℕ → Write
write_at ws i = get_or ws i (write 0 0)

abbrev pub byte_at : List Write → ℕ → ℕ
byte_at ws i = command_at (write_at ws i).address

-- the command that begins at write i, of n parameters
abbrev pub command_from : List Write → ℕ → ℕ → Command
command_from ws i n = command (byte_at ws i) (values (take n (drop i ws)))

-- a command of n parameters begins at write i, and is complete at write `next`
pub record Begins (ws : List Write) (i next n : ℕ) : Type 0 where
  pub read : rest_commands i ws ≡ prepend (command_from ws i n ∷ []) (rest_commands next ws)
  pub counted : n ≡ count (byte_at ws i)
  pub next-is : next ≡ i + writes_for n
  pub within : next ≤ length ws

-- ---- the commands of one command word

-- the commands from write i up to `next`: four, or the last ones
pub record IsGroup (ws : List Write) (i next : ℕ) (cs : List Command) : Type 0 where
  pub read : rest_commands i ws ≡ prepend cs (rest_commands next ws)
  pub some : 1 ≤ length cs
  pub most : length cs ≤ 4
  pub full : (length cs ≡ 4) ⊎ (next ≡ length ws)
  pub on : i < next
  pub within : next ≤ length ws

-- and they are packed into so many words
pub record SizedGroup (ws : List Write) (i next size : ℕ) : Type 0 where
  pub cs : List Command
  pub group : IsGroup ws i next cs
  pub counted : size ≡ length (group_words cs)
  pub small : size ≤ 130

-- a log that the packer takes is accepted from write i on, and its packed words fit a buffer
pub record GroupFits (ws : List Write) (i : ℕ) (old : List ℕ) : Type 0 where
  pub few : length ws ≤ 4096
  pub start : i < length ws
  pub is_read : IsRead (rest_commands i ws)
  pub room : length (packed_words (or_none (rest_commands i ws))) ≤ length old

-- the words of the commands of one command word are stored, so many of them
pub record PutGroup (ws : List Write) (i next : ℕ) (old new : List ℕ) (size : ℕ) : Type 0 where
  pub cs : List Command
  pub group : IsGroup ws i next cs
  pub counted : size ≡ length (group_words cs)
  pub small : size ≤ 130
  pub room : size ≤ length old
  pub buffer : new ≡ over (group_words cs) old
