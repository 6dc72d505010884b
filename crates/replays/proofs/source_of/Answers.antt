use Rattle.listing.specs.Text.{ascii}
use Rattle.replays.specs.Arguments.{source_of}
use Rattle.replays.proofs.ArgumentLaws.{same-test}
use Rattle.replays.proofs.source_of.Goals as goal

pub returns-then-eq : goal.returns-then-eq
unfolding source_of
returns-then-eq c = rw (same-test _ (ascii "list") c.as_slice.ensures c.eq.ensures, c.if-eq.true)

pub returns-then-eq-2 : goal.returns-then-eq-2
unfolding source_of
returns-then-eq-2 c =
    rw (
      same-test _ (ascii "list") c.as_slice.ensures c.eq.ensures,
      c.if-eq.false,
      same-test _ (ascii "log") c.as_slice-else-eq.ensures c.eq-else-eq.ensures,
      c.if-eq-2.true,
    )

pub returns-else-eq-2 : goal.returns-else-eq-2
unfolding source_of
returns-else-eq-2 c =
    rw (
      same-test _ (ascii "list") c.as_slice.ensures c.eq.ensures,
      c.if-eq.false,
      same-test _ (ascii "log") c.as_slice-else-eq.ensures c.eq-else-eq.ensures,
      c.if-eq-2.false,
    )
