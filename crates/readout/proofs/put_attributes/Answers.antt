use Rattle.listing.proofs.PutLaws.{puts_both}
use Rattle.readout.specs.Readout.{attributes_line}
use Rattle.readout.proofs.put_attributes.Goals as goal

pub returns : goal.returns
unfolding attributes_line
returns c =
    puts_both _ _ _ (puts_both _ _ _ (puts_both _ _ _ c.put.ensures c.put_hex.ensures) c.put-2.ensures)
    c.put_word_line.ensures
