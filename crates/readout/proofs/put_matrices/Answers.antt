use native.Mathlib.Omega.{arith}
use Rattle.listing.proofs.PutLaws.{puts_both}
use Rattle.listing.specs.Text.{ascii}
use Rattle.readout.specs.Readout.{matrices_text}
use Rattle.readout.proofs.NumberLaws.{numbers_line_end}
use Rattle.readout.proofs.put_matrices.Goals as goal

pub returns-clause-puts : goal.returns-clause-puts
unfolding matrices_text
returns-clause-puts c =
    puts_both _ _ _
    (puts_both _ _ _
    (puts_both _ _ _
    (puts_both _ _ _ c.put_numbers_line.ensures c.put_numbers_line-2.ensures) c.put_numbers_line-3.ensures)
    c.put_numbers_line-4.ensures)
    (rw c.clip_matrix-clip.ensures at c.put_numbers_line-5.ensures)

pub returns-clause-within : goal.returns-clause-within
returns-clause-within c =
    omega (
      arith,
      numbers_line_end _ (ascii "projection") _ c.put_numbers_line.ensures,
      numbers_line_end _ (ascii "position-matrix") _ c.put_numbers_line-2.ensures,
      numbers_line_end _ (ascii "vector") _ c.put_numbers_line-3.ensures,
      numbers_line_end _ (ascii "texture") _ c.put_numbers_line-4.ensures,
      numbers_line_end _ (ascii "clip") _ c.put_numbers_line-5.ensures,
    )
