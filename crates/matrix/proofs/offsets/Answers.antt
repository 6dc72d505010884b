use mathlib.Core.List.{map}
use mathlib.Core.Path.{◌≡◌, sym, ◌∙◌}
use native.Mathlib.Omega.{arith}
use lib.IntN.{pos}
use lib.ListN.{length, get_or, length-map}
use Rattle.std.proofs.lemmas.List.{ext_get_or}
use Rattle.products.specs.Inside.{number}
use Rattle.matrix.proofs.Arrays.{at-number}
use Rattle.matrix.proofs.Made.{made}
use borrow.Author.Rules.{rules}
use Rattle.matrix.proofs.offsets.Goals as goal

pub returns : goal.returns
returns c =
    let m = c.args.m in
    let r = c.from_fn.result in
    let items = c.from_fn.ensures.items in
    let long : length r ≡ 16 = items.long in
    let long-m : length m ≡ 16 = search rules in
    let long-n : length (map number r) ≡ 16 = length-map r number ∙ long in
    ext_get_or (pos 0) (map number r) m (long-n ∙ sym long-m)
    (λ i h. at-number r i (omega arith) ∙ made _ _ (λ k y. number y ≡ get_or m k (pos 0)) 16 (λ k y q h e. search rules) r items i 0 (omega arith))
