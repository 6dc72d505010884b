use mathlib.Core.Path.{◌≡◌, sym, ap, ◌∙◌}
use mathlib.Core.Bool.{Bool, ◌||◌}
use Prim.Native.Nat.{◌^◌, ◌<◌}
use lib.ListN.{length}
use Rattle.state.specs.Sound.{pending_of}
use Rattle.stream.proofs.QueueLaws.{is-queued}
use Rattle.state.proofs.Streams.{no_hole}
use borrow.Author.Rules.{rules}
use Rattle.state.proofs.Stream.is_packed_pending.Goals as goal

pub returns : goal.returns
unfolding pending_of
returns c =
    let s = c.args.self.now in
    let long : length s.held ≡ 32 = search rules in
    let fits : s.queue < 2 ^ 32 = search rules in
    ap (λ (b : Bool). b || s.dummy)
    (c.is_known.ensures ∙ sym (is-queued s.queue fits (no_hole s long c.requires)))
