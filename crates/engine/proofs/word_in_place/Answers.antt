use Rattle.stream.specs.Step.{word_step}
use Rattle.stream.specs.Refusal.{call_number}
use Rattle.engine.proofs.OneItem.{one-reply, one-given-back}
use Rattle.engine.proofs.word_in_place.Goals as goal

pub returns : goal.returns
returns c =
    let a = c.args in
    let fed = c.feed_items in
    let number = call_number fed.result.refusal in
    record {
      reply = one-reply word_step a.engine.now a.vertices.now a.polygons.now c.args.w fed.result.taken number _ _ _ fed.ensures.is;
      given_back = one-given-back word_step a.engine.now a.vertices.now a.polygons.now c.args.w fed.result.taken number _ _ _
          fed.ensures.is fed.ensures.given_back;
    }
