use mathlib.Core.Path.{◌∙◌, ap}
use native.Mathlib.Omega.{arith}
use lib.ListN.{length}
use Rattle.stream.specs.Feed.{Fed}
use Rattle.state.specs.declared.Core.{Core}
use Rattle.polygons.specs.Buffers.{Buffered}
use Rattle.replays.proofs.ReplayLaws.{RunKept, run-kept}
use Rattle.replays.proofs.put_run.Goals as goal
use Rattle.replays.proofs.put_run.Goals.{After-feed_as-fed}

-- what the run left
kept : (c : After-feed_as-fed) → RunKept c.args.e c.args.vertices.now c.args.polygons.now c.feed_as-fed.result c.feed_as-fed.new.vertices
    c.feed_as-fed.new.polygons (length c.args.words.now)
kept c =
    run-kept c.args.form c.args.e c.args.vertices.now c.args.polygons.now c.requires.sound.0 c.args.words.now
    c.feed_as-fed.result _ _ c.feed_as-fed.ensures.reply

pub put_fed-requires-clause-sound : goal.put_fed-requires-clause-sound
put_fed-requires-clause-sound c =
    let k = kept (goal.at.put_fed-requires-clause-sound c).After-feed_as-fed in
    (k.is-sound, omega (arith, k.taken, c.requires.sound.1))

pub put_fed-requires-clause-buffers_long : goal.put_fed-requires-clause-buffers_long
put_fed-requires-clause-buffers_long c =
    (kept (goal.at.put_fed-requires-clause-buffers_long c).After-feed_as-fed).long ∙ c.requires.buffers_long

pub returns : goal.returns
returns c =
    let told = c.feed_as-fed.ensures.reply in
    record {
      text-is = rw told at c.put_fed.ensures.puts;
      within = c.put_fed.ensures.within;
      vertices-are = ap (λ (f : Fed (Buffered Core)). f.left.state.vertices) told;
      polygons-are = ap (λ (f : Fed (Buffered Core)). f.left.state.polygons) told;
    }
