use Rattle.stream.specs.Command.{write}
use Rattle.stream.specs.Step.{port_step}
use Rattle.stream.specs.Refusal.{call_number}
use Rattle.engine.proofs.OneItem.{one-reply, one-given-back}
use Rattle.engine.proofs.port_write_in_place.Goals as goal

pub returns : goal.returns
returns c =
    let a = c.args in
    let fed = c.feed_items in
    let number = call_number fed.result.refusal in
    record {
      reply = one-reply port_step a.engine.now a.vertices.now a.polygons.now (write c.args.address c.args.value) fed.result.taken number _ _ _ fed.ensures.is;
      given_back = one-given-back port_step a.engine.now a.vertices.now a.polygons.now (write c.args.address c.args.value) fed.result.taken number _ _ _
          fed.ensures.is fed.ensures.given_back;
    }
