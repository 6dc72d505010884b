-- Inner: what a turn promises to the feed. No contract of a call cites it, and a reader need not believe it.
use Rattle.std.specs.Prelude.{Bool, true, false, cond, ◌||◌, List, [], ◌∷◌, ◌++◌, map, ◌≡◌, ℕ, ◌+◌, ◌-◌, ◌*◌, ◌/◌, ◌%◌, ◌^◌, ◌≤◌, ◌<◌, eqb, length, get_or, take, drop}
use Rattle.std.proofs.lemmas.List.Edits.{sets}
use Rattle.commands.specs.Commands.{known, count, command_at, command_bytes, hole}
use Rattle.stream.specs.declared.Form.{Form}
use Rattle.stream.specs.declared.Form.TheVariants.{Packed, Log}
use Rattle.stream.specs.Refusal.{call_number}
use Rattle.stream.specs.Pending.{Pending, queued, commands_of}
use Rattle.stream.specs.Command.{takes_none, Command, command, Write, write}
use Rattle.stream.specs.Read.{writes}
use Rattle.stream.specs.Step.{Step, refused, accepted, at_once, pending_behind, word_step, port_step}
use Rattle.turns.specs.declared.Begun.{Begun}
use Rattle.turns.specs.declared.Turn.{Turn}
use Rattle.turns.specs.declared.Outcome.{Outcome}
use Rattle.turns.specs.declared.Outcome.TheVariants.{Runs, GoesOn, Ends}

-- ---- what is pending

-- the commands that are complete and still to run: those at the front of the queue that take no parameter
unfoldable pub due_of : Begun → List Command
due_of b = at_once (commands_of b.queue)

-- what is pending once they have run
abbrev pub behind_due : Bool → ℕ → List ℕ → List ℕ → Pending
behind_due dummy port h [] = record { queue = []; held = h; dummy = dummy; port = port }
behind_due dummy port h (c ∷ q) = cond (takes_none c) (pending_behind true q) (queued (c ∷ q) h)

unfoldable pub pending_due : Begun → List ℕ → Pending
pending_due b held = behind_due b.dummy b.port (take b.count held) (commands_of b.queue)

-- a packed word is pending
unfoldable pub is_packed : Begun → Bool
is_packed b = known (b.queue % 256) || b.dummy

-- the numbers fit each other
pub record Fit (b : Begun) : Type 0 where
  pub no_hole : hole (command_bytes b.queue) ≡ false
  pub fewer : known (b.queue % 256) ≡ true → 1 ≤ count (b.queue % 256) → b.count < count (b.queue % 256)
  pub none-held : known (b.queue % 256) ≡ true → count (b.queue % 256) ≡ 0 → b.count ≡ 0
  pub no_port : known (b.queue % 256) ≡ true → b.port ≡ 0
  pub idle-held : known (b.queue % 256) ≡ false → b.port ≡ 0 → b.count ≡ 0
  pub port-held : (b.port ≡ 0 → ⊥) → b.count < count b.port

-- write i is taken: its address is the port of c, no packed word is pending, and no other port's command
pub record Writable (b : Begun) (c : ℕ) (log : List ℕ) (i : ℕ) (held : List ℕ) : Type 0 where
  pub fit : Fit b
  pub inside : i < length log / 2
  pub long : length held ≡ 32
  pub at : c ≡ command_at (get_or log (2 * i) 0)
  pub some : c ≡ 0 → ⊥
  pub free : is_packed b ≡ false
  pub own : (eqb b.port 0 || eqb b.port c) ≡ true

-- ---- a turn

-- the command that an outcome completes, 0 where it completes none
abbrev pub command_in : Outcome → ℕ
command_in (Runs c) = c
command_in GoesOn = 0
command_in (Ends refusal) = 0

-- whether it is the end
abbrev pub has_ended : Outcome → Bool
has_ended (Runs c) = false
has_ended GoesOn = false
has_ended (Ends refusal) = true

-- the number with which the next item is refused, 0 where none is
abbrev pub number_in : Outcome → ℕ
number_in (Runs c) = 0
number_in GoesOn = 0
number_in (Ends refusal) = call_number refusal

-- the items from the i-th on, so many, are those of some values, which are held from place `to` on
pub record Held {A : Type 0} (item : ℕ → A) (items : List A) (i : ℕ) (old : List ℕ) (to : ℕ) (new : List ℕ) (many : ℕ)
    : Type 0 where
  pub values : List ℕ
  pub size : length values ≡ many
  pub items-are : take many (drop i items) ≡ map item values
  pub buffer : new ≡ sets old to values

-- from p the items l are all taken; they leave q and complete the commands cs, in the order in which they run
pub data AllTaken {A : Type 0} (step : Pending → A → Step) : Pending → List A → Pending → List Command → Type 0 where
  no_item : {p : Pending} → AllTaken step p [] p []
  one-item : {p q r : Pending} {a : A} {l : List A} {cs ds : List Command} → step p a ≡ accepted q cs
      → AllTaken step q l r ds → AllTaken step p (a ∷ l) r (cs ++ ds)

-- the command that a turn gives, with its parameters
unfoldable pub given_by : ℕ → List ℕ → List Command
given_by c held = cond (eqb c 0) [] (command c (take (count c) held) ∷ [])

-- how far a turn has come: the words or writes to come, then the commands
abbrev pub to_come : ℕ → ℕ → Begun → ℕ
to_come items i b = 2 ^ 32 * (items - i) + b.queue

-- a turn from the i-th item on, with `old` held before it and `new` after it
pub record Turned {A : Type 0} (step : Pending → A → Step) (items : List A) (i : ℕ) (b : Begun) (old : List ℕ)
    (r : Turn) (new : List ℕ) : Type 0 where
  pub many : ℕ
  pub completed : List Command
  pub next : r.next ≡ i + many
  pub same : length new ≡ length old
  pub within : i + many ≤ length items
  pub taken : AllTaken step (pending_due b old) (take many (drop i items)) (pending_due r.begun new) completed
  pub order : due_of b ++ completed ≡ given_by (command_in r.outcome) new ++ due_of r.begun
  pub fit : Fit r.begun
  pub none-due : has_ended r.outcome ≡ true → due_of r.begun ≡ []
  pub none-given : has_ended r.outcome ≡ true → command_in r.outcome ≡ 0
  pub all-taken : has_ended r.outcome ≡ true → number_in r.outcome ≡ 0 → i + many ≡ length items
  pub not_taken : has_ended r.outcome ≡ true → (number_in r.outcome ≡ 0 → ⊥) → (a : A) (l : List A)
      → drop (i + many) items ≡ a ∷ l → step (pending_due r.begun new) a ≡ refused (number_in r.outcome)
  pub some_left : has_ended r.outcome ≡ true → (number_in r.outcome ≡ 0 → ⊥) → i + many < length items
  pub as_before : has_ended r.outcome ≡ true → (number_in r.outcome ≡ 0 → ⊥) → (r.begun ≡ b) × (new ≡ old)
  pub some-taken : has_ended r.outcome ≡ false → due_of b ≡ [] → 1 ≤ many
  pub less : has_ended r.outcome ≡ false → to_come (length items) r.next r.begun < to_come (length items) i b

-- ---- packed words, or port writes

-- how many items so many words are: a port write is two
abbrev pub items_in : Form → ℕ → ℕ
items_in Packed size = size
items_in Log size = size / 2

-- port write i of a log
abbrev pub pair_at : List ℕ → ℕ → Write
pair_at ws i = write (get_or ws (2 * i) 0) (get_or ws (2 * i + 1) 0)

-- a turn over the words as they are, or as the port writes of a log
abbrev pub TurnedAs : Form → List ℕ → ℕ → Begun → List ℕ → Turn → List ℕ → Type 0
TurnedAs Packed ws = Turned word_step ws
TurnedAs Log ws = Turned port_step (writes ws)
