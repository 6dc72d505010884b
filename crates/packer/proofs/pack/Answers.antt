use mathlib.Core.Path.{◌≡◌, refl, ap, ◌∙◌}
use native.Mathlib.Omega.{arith}
use lib.ListN.{length}
use Rattle.std.specs.Prelude.{Ok}
use Rattle.std.proofs.lemmas.Result.{err_from_is_err_and}
use Rattle.words.specs.Words.{over}
use Rattle.stream.specs.Read.{writes, log_commands}
use Rattle.stream.specs.Output.{refusal, answer_to, measured}
use Rattle.stream.specs.Pack.{packed_words, or_none, pack}
use Rattle.stream.proofs.OutputLaws.{stores-none}
use Rattle.packer.specs.Inside.{writes_of}
use Rattle.packer.proofs.ValueLaws.{writes-of-chunks}
use Rattle.packer.proofs.CallLaws.{log_odd, log_long, Allowed, refused_log, accepted_log}
use Rattle.packer.proofs.CallLaws.{list-long, too_small, stores_words}
use Rattle.packer.proofs.pack.Goals as goal
use Rattle.packer.proofs.pack.Goals.{After-as_chunks, In_ok-length}
use Rattle.packer.proofs.pack.Goals.{then-log-eq1-via-then-log-eq1, then-log-eq1-via-else-log-eq1+then-log-gt-MOST_WORDS}

pub returns-then-log-eq1 : goal.returns-then-log-eq1
returns-then-log-eq1 c =
    let capacity = length c.args.output.now in
    let log = c.args.log.now in
    let seven : pack capacity log ≡ refusal 7 0 =
    elim c.then-log-eq1.branch [
      | then-log-eq1-via-then-log-eq1 w ↦ log_odd capacity log w.if-log-eq1.true
      | then-log-eq1-via-else-log-eq1+then-log-gt-MOST_WORDS w ↦ log_long capacity log w.if-log-gt-MOST_WORDS.true
    ] in
    rw c.refused_at.ensures (stores-none 7 0 _ c.args.output.now seven refl)

-- number 7 does not fall
allowed : (c : After-as_chunks) → Allowed c.args.log.now
allowed c = record { not-odd = c.if-log-eq1.false; short = c.if-log-gt-MOST_WORDS.false }

-- the code reads the log's writes
same : (c : After-as_chunks) → writes_of c.as_chunks.result.0.now ≡ writes c.args.log.now
same c = ap writes_of c.as_chunks.ensures.front ∙ writes-of-chunks c.args.log.now

pub returns-in_err-length : goal.returns-in_err-length
returns-in_err-length c =
    let here = (goal.at.returns-in_err-length c).After-as_chunks in
    let p = err_from_is_err_and c.from_residual.result c.from_residual.ensures.1 in
    rw (p.1, p.2)
    (refused_log (length c.args.output.now) (allowed here) _
    (c.in_err-length.ensures ∙ ap (λ ws. measured packed_words (log_commands ws)) (same here)) c.args.output.now)

-- the answer where the output is long enough
answer : (c : In_ok-length)
    → answer_to (Ok c.in_ok-length.length) ≡ measured packed_words (log_commands (writes c.args.log.now))
answer c =
    c.in_ok-length.ensures
    ∙ ap (λ ws. measured packed_words (log_commands ws))
    (ap writes_of c.as_chunks.ensures.front ∙ writes-of-chunks c.args.log.now)

pub returns-then-length-gt-MOST_WORDS : goal.returns-then-length-gt-MOST_WORDS
returns-then-length-gt-MOST_WORDS c =
    let here = goal.at.returns-then-length-gt-MOST_WORDS c in
    rw c.refused_at-then-length-gt-MOST_WORDS.ensures
    (stores-none 9 0 _ c.args.output.now
    (list-long (length c.args.output.now) (allowed here.After-as_chunks) _ (answer here.In_ok-length)
    c.if-length-gt-MOST_WORDS.true)
    refl)

pub returns-then-output-length : goal.returns-then-output-length
returns-then-output-length c =
    let here = goal.at.returns-then-output-length c in
    rw c.refused_at-then-output-length.ensures
    (stores-none 10 0 _ c.args.output.now
    (too_small (length c.args.output.now) (allowed here.After-as_chunks) _ (answer here.In_ok-length)
    c.if-length-gt-MOST_WORDS.false c.if-output-length.true)
    refl)

pub put_log-requires-clause-read : goal.put_log-requires-clause-read
put_log-requires-clause-read c =
    let here = goal.at.put_log-requires-clause-read c in
    rw (same here.After-as_chunks)
    (accepted_log (length c.args.output.now) (allowed here.After-as_chunks) _ (answer here.In_ok-length)).read

pub put_log-requires-clause-fits : goal.put_log-requires-clause-fits
put_log-requires-clause-fits c =
    let here = goal.at.put_log-requires-clause-fits c in
    let w = accepted_log (length c.args.output.now) (allowed here.After-as_chunks) _ (answer here.In_ok-length) in
    rw (same here.After-as_chunks) (omega (arith, w.length-is, c.if-output-length.false))

pub returns : goal.returns
returns c =
    let here = goal.at.returns c in
    stores_words (length c.args.output.now) (allowed here.After-as_chunks) _ (answer here.In_ok-length)
    c.if-length-gt-MOST_WORDS.false c.if-output-length.false c.args.output.now c.put_log.new.buffer
    (c.put_log.ensures
    ∙ ap (λ ws. over (packed_words (or_none (log_commands ws))) c.args.output.now) (same here.After-as_chunks))
