use Rattle.std.proofs.Common.{arith, rules}
use Rattle.transforms.specs.Command.{signed, numbers_of}
use Rattle.transforms.proofs.Maps.{made_by_map}
use Rattle.transforms.proofs.numbers.Goals as goal

pub returns : goal.returns
unfolding numbers_of
returns c =
    made_by_map _ _ signed c.args.p.now 0 16 (λ i y q l call. search rules) c.from_fn.result (omega arith) c.from_fn.ensures.items
