use mathlib.Core.List.{[], ◌∷◌, map}
use mathlib.Core.Path.{◌≡◌, sym, ap, ◌∙◌}
use lib.IntN.{ℤ, ◌*ℤ◌}
use lib.ListN.{length}
use mir.Facts.{to_z-of_z}
use mir.Syntax.{w32}
use Rattle.lowbits.proofs.Elements.{element}
use Rattle.lowbits.proofs.Read.{again}
use Rattle.matrix.specs.Matrix.{rounded}
use Rattle.matrix.proofs.Arrays.{four}
use borrow.Author.Rules.{rules}
use Rattle.matrix.proofs.scaled_row.Goals as goal

pub returns : goal.returns
returns c =
    let row = c.args.row in
    let long : length row ≡ 4 = search rules in
    let n = c.offset-n.ensures ∙ to_z-of_z c.ranges.n in
    let read = element w32 row _ c.well_formed.1.0.1.1 in
    (λ t. (again w32 _ c.scaled.type_inv ∙ c.scaled.ensures ∙ (λ s. rounded (n s *ℤ read 0 s))) t
    ∷ (again w32 _ c.scaled-2.type_inv ∙ c.scaled-2.ensures ∙ (λ s. rounded (n s *ℤ read 1 s))) t
    ∷ (again w32 _ c.scaled-3.type_inv ∙ c.scaled-3.ensures ∙ (λ s. rounded (n s *ℤ read 2 s))) t
    ∷ (again w32 _ c.scaled-4.type_inv ∙ c.scaled-4.ensures ∙ (λ s. rounded (n s *ℤ read 3 s))) t
    ∷ [])
    ∙ sym (ap (map (λ (a : ℤ). rounded (c.args.n *ℤ a))) (four row long))
