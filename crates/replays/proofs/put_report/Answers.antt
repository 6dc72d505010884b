use mathlib.Core.Path.{refl}
use native.Mathlib.Omega.{arith}
use Rattle.listing.proofs.PutLaws.{length-with_bytes}
use Rattle.replays.specs.Replay.{usage, replay_as}
use Rattle.replays.proofs.put_report.Goals as goal

pub returns-in-Some : goal.returns-in-Some
unfolding replay_as
returns-in-Some c = rw c.in-Some.is c.put_replay.ensures

pub returns-in-None : goal.returns-in-None
unfolding replay_as usage
returns-in-None c =
    rw c.in-None.is
    (record { text-is = c.put.ensures; within = rw c.put.ensures (omega (arith, length-with_bytes c.args.text.now usage)); vertices-are = refl; polygons-are = refl })
