use mathlib.Core.Path.{◌≡◌}
use Prim.Native.Nat.{ℕ}
use lib.IntN.{ℤ, pos}
use Rattle.std.proofs.lemmas.List.FromFn.{fill_by_all}
use Rattle.matrix.specs.Matrix.{column, row_by, one}
use Rattle.matrix.proofs.Made.{made}
use borrow.Author.Rules.{rules}
use Rattle.matrix.proofs.clip_vertex.Goals as goal

pub returns : goal.returns
unfolding row_by
returns c =
    let v = c.args in
    let items = c.from_fn.ensures.items in
    let number : ℕ → ℤ = λ j. column v.x v.y v.z one v.clip j in
    fill_by_all number c.from_fn.result 4 (pos 0) items.long
    (λ k h. made _ _ (λ j z. z ≡ number j) 4 (λ j z q l e. search rules) c.from_fn.result items k (pos 0) h)
