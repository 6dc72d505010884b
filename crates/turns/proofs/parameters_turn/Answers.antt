use Prim.Native.Nat.{◌%◌, ◌^◌, ◌≤◌, ◌<◌}
use native.Mathlib.Omega.{arith}
use borrow.Author.Tests.{eq-eqb, ne_eqb}
use Rattle.commands.proofs.Table.{count_small}
use Rattle.turns.proofs.WordTurn.{held-few, word-at_once, word-complete, word-short}
use borrow.Author.Rules.{rules}
use Rattle.turns.proofs.parameters_turn.Goals as goal
use Rattle.turns.proofs.parameters_turn.Goals.{After-count}

-- no more is held than the command takes
few : (c : After-count) → c.args.b.count ≤ c.count.result
few c =
    omega (arith, c.count.ensures, held-few c.args.b c.requires.fit.0 c.requires.fit.1)

pub returns-then-lacks-eq0 : goal.returns-then-lacks-eq0
returns-then-lacks-eq0 c =
    let fits : c.args.b.queue < 2 ^ 32 = search rules in
    word-at_once _ _ _ _ c.told-held fits c.requires.fit.0 c.requires.fit.1
    (eq-eqb _ 0 c.if-lacks-eq0.true) (omega (arith, few (goal.at.returns-then-lacks-eq0 c).After-count))
    c.requires.i_in_bounds

pub hold_words-requires : goal.hold_words-requires
hold_words-requires c = (
  omega arith,
  omega (arith, few (goal.at.hold_words-requires c).After-count, count_small (c.args.b.queue % 256)),
)

pub returns-then-left-lacks : goal.returns-then-left-lacks
returns-then-left-lacks c =
    let fits : c.args.b.queue < 2 ^ 32 = search rules in
    rw c.ends.ensures
    (word-short _ _ _ _ c.told-held fits c.requires.fit.0 c.requires.fit.1 _
    (omega (arith, few (goal.at.returns-then-left-lacks c).After-count)) (omega arith) c.hold_words.ensures)

pub hold_words-requires-2 : goal.hold_words-requires-2
hold_words-requires-2 c = (
  omega (arith, few (goal.at.hold_words-requires-2 c).After-count),
  omega (arith, few (goal.at.hold_words-requires-2 c).After-count, count_small (c.args.b.queue % 256)),
)

pub returns : goal.returns
returns c =
    let fits : c.args.b.queue < 2 ^ 32 = search rules in
    word-complete _ _ _ _ c.told-held fits c.requires.fit.0 c.requires.fit.1 _
    (ne_eqb _ 0 c.if-lacks-eq0.false) (omega arith) (omega (arith, few (goal.at.returns c).After-count))
    (omega arith) c.hold_words-2.ensures
