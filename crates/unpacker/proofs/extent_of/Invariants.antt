use Rattle.std.proofs.Common.{◌*◌, ◌≤◌, drop}
use Rattle.unpacker.proofs.ExtentLaws.{Extending}
use Rattle.unpacker.proofs.extent_of.Given as goal

abbrev pub invariant-loop-byte : goal.invariant-loop-byte
invariant-loop-byte l = record {
  so_far : Extending l.word (drop l.byte-index l.byte-items) l.words l.writes l.dummy l.ended;
  words_few : l.words ≤ 32 * l.byte-index;
  writes_few : l.writes ≤ 33 * l.byte-index;
}
