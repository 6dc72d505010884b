use Rattle.std.proofs.Common.{◌≡◌, take}
use Rattle.std.proofs.lemmas.List.Edits.{sets}
use Rattle.stream.specs.Unpack.{writes_to, log_of}
use Rattle.unpacker.proofs.put_command.Given as goal

abbrev pub invariant-loop-j : goal.invariant-loop-j
invariant-loop-j l = l.buffer ≡ sets l.initial.buffer l.to (log_of (writes_to l.address (take l.j l.parameters)))
