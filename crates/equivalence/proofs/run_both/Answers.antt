use mathlib.Core.Path.{◌≡◌, sym, ap, ◌∙◌}
use Prim.Native.Nat.{ℕ, ◌≤◌}
use lib.ListN.{length, take}
use lib.Seq.{length-take-le}
use Rattle.stream.specs.declared.OutputAnswer.{OutputAnswer}
use Rattle.stream.specs.Output.{answer_to, Stores}
use Rattle.stream.specs.Pack.{pack}
use Rattle.stream.proofs.OutputLaws.{stored-length}
use Rattle.stream.proofs.RefusalLaws.{number-not-0}
use Rattle.execute.specs.Call.{machine_of, words_reply}
use Rattle.equivalence.proofs.BothLaws.{not-run, not_placed, both-ran}
use Rattle.equivalence.proofs.run_both.Goals as goal
use Rattle.equivalence.proofs.run_both.Goals.{After-from-packed, In-Ok}

-- the packer's answer
stores : (c : After-from-packed)
    → Stores (pack (length c.args.output.now) c.args.log.now) c.from-packed.result c.args.output.now
    c.pack-outcome.new.output
stores c =
    record {
      answer = c.from-packed.ensures ∙ c.pack-outcome.ensures.answer;
      buffer = c.pack-outcome.ensures.buffer;
    }

pub returns-in_default-clause-ran : goal.returns-in_default-clause-ran
returns-in_default-clause-ran c =
    let refused = λ (z : c.from-packed.result.number ≡ 0). number-not-0 c.in_default.field-0.refusal
    (sym (ap (λ (x : OutputAnswer). x.number) (c.from-packed.ensures ∙ ap answer_to c.in_default.is)) ∙ z) in
    record {
      stores = stores (goal.at.returns-in_default-clause-ran c).After-from-packed;
      writes-ran = λ z. absurd (refused z);
      words-ran = λ z. absurd (refused z);
      refused = λ _. (not-run _ _ c.none_fed.ensures, not-run _ _ c.none_fed-in_default.ensures);
      writes-place = not_placed c.none_fed.ensures;
      words-place = not_placed c.none_fed-in_default.ensures;
    }

-- the length that it answers
length-is : (c : In-Ok) → c.from-packed.result.length ≡ c.in-Ok.length
length-is c = ap (λ (x : OutputAnswer). x.length) (c.from-packed.ensures ∙ ap answer_to c.in-Ok.is)

within : (c : In-Ok) → c.in-Ok.length ≤ length c.pack-outcome.new.output
within c = rw (length-is c) at (stored-length (stores (goal.at.In-Ok c).After-from-packed))

pub slice_bounds-feed_words-end : goal.slice_bounds-feed_words-end
slice_bounds-feed_words-end c = within (goal.at.slice_bounds-feed_words-end c).In-Ok

pub slice_bounds-feed_words-end-2 : goal.slice_bounds-feed_words-end-2
slice_bounds-feed_words-end-2 c =
    sym (length-take-le _ c.pack-outcome.new.output (within (goal.at.slice_bounds-feed_words-end-2 c).In-Ok))

pub returns-clause-both_agree : goal.returns-clause-both_agree
returns-clause-both_agree c =
    let writes = c.feed_writes-writes.ensures in
    let words = c.feed_words-words.ensures in
    let is = c.from-packed.ensures ∙ ap answer_to c.in-Ok.is in
    (both-ran (stores (goal.at.returns-clause-both_agree c).After-from-packed)
    (ap (λ (x : OutputAnswer). x.number) is) writes.reply writes.place_value
    (words.reply
    ∙ ap (λ (n : ℕ). words_reply (machine_of c.args.e c.args.vertices2.now c.args.polygons2.now)
    (take n c.pack-outcome.new.output)) (sym (ap (λ (x : OutputAnswer). x.length) is)))
    words.place_value).1
