use lib.IntN.{pos}
use lib.ListN.{get_or}
use mir.Syntax.{w32}
use mir.Val.{SFits}
use mir.ValLaws.{to_z-of_z}
use borrow.Author.Rules.{rules}
use Rattle.listing.proofs.PutLaws.{puts_both}
use Rattle.readout.specs.Readout.{vertex_line}
use Rattle.readout.proofs.ChunkLaws.{rest-are}
use Rattle.readout.proofs.put_vertex_line.Goals as goal

pub returns-clause-puts : goal.returns-clause-puts
unfolding vertex_line
returns-clause-puts c =
    let v = c.args.vertex.now in
    let x : SFits w32 (get_or v 0 (pos 0)) = search rules in
    puts_both _ _ _ (rw (to_z-of_z w32 _ x) at c.put_signed.ensures)
    (rw (rest-are v c.told-vertex) at c.put_numbers_line.ensures)
