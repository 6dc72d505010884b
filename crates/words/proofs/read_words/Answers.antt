use mathlib.Core.List.{List, [], ◌∷◌, ◌++◌}
use mathlib.Core.Path.{◌≡◌, sym, ap, ◌∙◌}
use Prim.Native.Nat.{ℕ, ◌<◌, ◌/◌, min}
use native.Mathlib.Omega.{arith}
use lib.ListN.{length, get_or, take, drop}
use Rattle.std.specs.Int.{w32, from_le_bytes}
use Rattle.std.proofs.lemmas.List.{length-take, take_all, take_more, take_more_set, take_min}
use Rattle.words.specs.Words.{words_of, over}
use Rattle.words.proofs.Words.{length-words_of, chunk_word}
use Rattle.words.proofs.read_words.Goals as goal

pub loop-i-preserved : goal.loop-i-preserved
loop-i-preserved c =
    let input = c.args.input.now in
    let at = c.loop-i in
    let long = length-words_of input in
    let inside : at.i < c.min-count.result = omega (arith, length-take {A = ℕ}) in
    let read =
    c.from_le_bytes.ensures
    ∙ ap (λ (l : List (List ℕ)). from_le_bytes w32 (get_or l at.i [])) c.as_chunks.ensures.front
    ∙ chunk_word (length input / 4) input at.i (omega arith) (omega arith) in
    take_more_set at.word-items at.i c.from_le_bytes.result (omega arith)
    ∙ (λ t. at.invariant t ++ (read t ∷ []))
    ∙ sym (take_more (words_of input) at.i 0 (omega arith))

pub returns : goal.returns
unfolding over
returns c =
    let words = words_of c.args.input.now in
    let old = c.args.buffer.now in
    let at = c.loop-i in
    let long = length-words_of c.args.input.now in
    let count : c.min-count.result ≡ length (take (length old) words) = simp length-take (omega arith) in
    let all : at.i ≡ min (length old) (length words) = omega (arith, length-take {A = ℕ}) in
    let new =
    sym (take_all at.i at.word-items (omega arith)) ∙ at.invariant
    ∙ ap (λ (k : ℕ). take k words) all ∙ take_min (length old) words in
    λ t. new t ++ drop (count t) old
