use mathlib.Core.Path.{◌≡◌}
use lib.ListN.{length}
use Rattle.state.proofs.StreamTest.{stream-sound}
use borrow.Author.Rules.{rules}
use Rattle.state.proofs.Stream.is_sound.Goals as goal

pub returns : goal.returns
returns c =
    let s = c.args.self.now in
    let long : length s.held ≡ 32 = search rules in
    simp (
      c.has_hole.ensures,
      c.count-n.ensures,
      c.first_of.ensures,
      c.command_bytes-bytes.ensures,
    ) (stream-sound s long)
