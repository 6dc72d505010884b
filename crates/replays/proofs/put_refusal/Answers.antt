use Rattle.listing.proofs.PutLaws.{with_bytes-none}
use Rattle.replays.proofs.ReplayLaws.{no_refusal, one-refusal}
use Rattle.replays.proofs.put_refusal.Goals as goal

pub returns-then-number-ne0 : goal.returns-then-number-ne0
returns-then-number-ne0 c =
    rw (← one-refusal c.args.number c.args.place c.if-number-ne0.true) c.put_refused.ensures

pub returns-else-number-ne0 : goal.returns-else-number-ne0
returns-else-number-ne0 c =
    rw (no_refusal c.args.number c.args.place c.if-number-ne0.false, with_bytes-none)
