-- The calls of the real engine: document 01, "Numbers a call can refuse with"; document 02, T-01.
use Rattle.std.specs.Prelude.{Bool, List, ◌≡◌, ℕ, ℤ}
use Rattle.stream.specs.declared.Form.{Form}
use Rattle.stream.specs.declared.Form.TheVariants.{Packed, Log}
use Rattle.stream.specs.Command.{Command, Write}
use Rattle.stream.specs.Call.{Rules, Machine, Reply, machine, word_call, port_call}
use Rattle.stream.specs.Feed.{Fed, fed, words_call, writes_call}
use Rattle.stream.specs.Read.{writes}
use Rattle.state.specs.declared.Core.{Core}
use Rattle.state.specs.declared.Engine.{Engine}
use Rattle.state.specs.declared.Answer.{Answer}
use Rattle.state.specs.declared.ListAnswer.{ListAnswer}
use Rattle.state.specs.Sound.{sound_core, pending_of}
use Rattle.polygons.specs.Buffers.{Buffered, buffered}
use Rattle.execute.specs.Execute.{buffers_long, execute}

-- a command on the core and the caller's buffers
abbrev pub exec : Command → Buffered Core → Buffered Core
exec c s = execute c.byte c.parameters s

-- number 1 does not fall on the core
abbrev pub core_sound : Buffered Core → Bool
core_sound s = sound_core s.part

-- what the calls ask of this engine
abbrev pub engine_rules : Rules (Buffered Core)
engine_rules = record { exec = exec; sound = core_sound; long_enough = buffers_long }

-- what the engine's record and the two buffers stand for
abbrev pub machine_of : Engine → List ℤ → List ℕ → Machine (Buffered Core)
machine_of e vertices polygons = machine (buffered e.core vertices polygons) (pending_of e.stream)

-- and an answer with the buffers after the call
abbrev pub reply_of : Answer → List ℤ → List ℕ → Reply (Buffered Core)
reply_of r vertices polygons =
    record { number = r.number; place = r.place; left = machine_of r.engine vertices polygons }

-- "A refused call changes nothing": the engine comes back as it was given, also where no definition looks
abbrev pub GivenBack : Engine → Answer → Type 0
GivenBack e r = (r.number ≡ 0 → ⊥) → r.engine ≡ e

-- the word call: "1, 2, 4, 3 (3 only where a command word is due)"
abbrev pub word_reply : Machine (Buffered Core) → ℕ → Reply (Buffered Core)
word_reply = word_call engine_rules

-- the port write call: "1, 2, 5, 4, 6"
abbrev pub port_reply : Machine (Buffered Core) → Write → Reply (Buffered Core)
port_reply = port_call engine_rules

-- ---- many words in one call

-- what an answer stands for with the buffers after the call
abbrev pub fed_of : ListAnswer → List ℤ → List ℕ → Fed (Buffered Core)
fed_of r vertices polygons = fed r.taken r.number (machine_of r.engine vertices polygons)

-- "A refused call changes nothing"; T-01: "demand 1 excepts the words already taken here". Where none was taken, the
-- engine comes back as it was given, also where no definition looks
abbrev pub FirstGivenBack : Engine → ListAnswer → Type 0
FirstGivenBack e r = (r.number ≡ 0 → ⊥) → r.taken ≡ 0 → r.engine ≡ e

-- T-01: a whole list
abbrev pub words_reply : Machine (Buffered Core) → List ℕ → Fed (Buffered Core)
words_reply = words_call engine_rules

-- the port writes of a whole log
abbrev pub writes_reply : Machine (Buffered Core) → List Write → Fed (Buffered Core)
writes_reply = writes_call engine_rules

-- words as they are, or as the port writes of a log
abbrev pub feed_as : Form → Machine (Buffered Core) → List ℕ → Fed (Buffered Core)
feed_as Packed m ws = words_reply m ws
feed_as Log m ws = writes_reply m (writes ws)
