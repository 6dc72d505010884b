use native.Mathlib.Omega.{arith}
use lib.ListN.{length}
use Rattle.std.proofs.lemmas.Result.{err_from_is_err_and}
use Rattle.stream.proofs.OutputLaws.{stores-none}
use Rattle.unpacker.proofs.CallLaws.{too_long, refused_reading, Accepted, accepted, too_small, stores_log}
use Rattle.unpacker.proofs.unpack_from.Goals as goal
use Rattle.unpacker.proofs.unpack_from.Goals.{In_ok-length}

pub returns-then-words-gt-MOST_WORDS : goal.returns-then-words-gt-MOST_WORDS
returns-then-words-gt-MOST_WORDS c =
    stores-none 7 0 _ c.args.output.now
    (too_long c.args.place (length c.args.output.now) c.args.words.now c.if-words-gt-MOST_WORDS.true)
    (rw c.refused_at.ensures)

pub returns-in_err-length : goal.returns-in_err-length
returns-in_err-length c =
    let p = err_from_is_err_and c.from_residual.result c.from_residual.ensures.1 in
    rw (p.1, p.2)
    (refused_reading c.args.place (length c.args.output.now) c.args.words.now _ c.if-words-gt-MOST_WORDS.false
    c.in_err-length.ensures c.args.output.now)

-- nothing is wrong with the list
is-accepted : (c : In_ok-length) → Accepted c.args.place c.args.words.now c.in_ok-length.length
is-accepted c =
    accepted c.args.place c.args.words.now c.in_ok-length.length c.if-words-gt-MOST_WORDS.false
    c.in_ok-length.ensures

pub returns-then-output-length : goal.returns-then-output-length
returns-then-output-length c =
    let output = c.args.output.now in
    let a = is-accepted (goal.at.returns-then-output-length c).In_ok-length in
    stores-none 10 0 _ output (too_small (length output) a c.if-output-length.true)
    (rw c.refused_at-then-output-length.ensures)

pub put_list-requires-clause-read : goal.put_list-requires-clause-read
put_list-requires-clause-read c = (is-accepted (goal.at.put_list-requires-clause-read c).In_ok-length).whole.read

pub put_list-requires-clause-words_in_bounds : goal.put_list-requires-clause-words_in_bounds
put_list-requires-clause-words_in_bounds c =
    let a = is-accepted (goal.at.put_list-requires-clause-words_in_bounds c).In_ok-length in
    omega (arith, a.whole.length-is, c.if-output-length.false)

pub returns : goal.returns
returns c =
    let output = c.args.output.now in
    let a = is-accepted (goal.at.returns c).In_ok-length in
    stores_log (length output) a c.if-output-length.false output _ c.put_list.ensures
