use native.Mathlib.Omega.{arith}
use mathlib.Core.Bool.{true}
use mathlib.Core.Path.{◌≡◌, sym, ap, ◌∙◌}
use lib.ListN.{length}
use Rattle.stream.proofs.InputLaws.{InputRead, input-read}
use Rattle.state.specs.declared.Answer.{Answer}
use Rattle.state.specs.Sound.{sound}
use Rattle.state.proofs.SoundLaws.{start-sound}
use Rattle.replays.proofs.ReplayLaws.{always_long, rooms-refused, input-refused, replay-ran, refusal-put, put-as}
use Rattle.replays.proofs.put_replay.Goals as goal
use Rattle.replays.proofs.put_replay.Goals.{After-read_words, After-start-started}

-- the engine that was started
sounds : (c : After-start-started) → sound c.start-started.result.engine ≡ true
sounds c =
    let rooms = c.args.rooms in
    ap (λ (x : Answer). sound x.engine) c.start-started.ensures ∙ start-sound rooms.vertices rooms.polygons

pub returns-then-started-ne0 : goal.returns-then-started-ne0
returns-then-started-ne0 c =
    put-as
    (rooms-refused c.args.form c.args.rooms.vertices c.args.rooms.polygons c.args.input.now c.args.vertices.now
    c.args.polygons.now c.start-started.result c.start-started.ensures c.if-started-ne0.true)
    (refusal-put 11 (rw c.into.ensures at c.put_refused.ensures))

pub returns-then-not-is_input : goal.returns-then-not-is_input
returns-then-not-is_input c =
    put-as
    (input-refused c.args.form c.args.rooms.vertices c.args.rooms.polygons c.args.input.now c.args.vertices.now
    c.args.polygons.now c.start-started.result c.start-started.ensures c.if-started-ne0.false
    (sym c.is_input.ensures ∙ c.if-not-is_input.true))
    (refusal-put 7 (rw c.into-then-not-is_input.ensures at c.put_refused-then-not-is_input.ensures))

-- the input is read
read : (c : After-read_words) → InputRead c.args.form c.args.input.now c.read_words.new.buffer
read c =
    input-read c.args.form c.args.input.now c.longest_list-words.result c.read_words.new.buffer
    (sym c.is_input.ensures ∙ c.if-not-is_input.false) c.longest_list-words.ensures
    c.read_words.ensures

pub slice_bounds-words-end : goal.slice_bounds-words-end
slice_bounds-words-end c = (read (goal.at.slice_bounds-words-end c).After-read_words).within

pub slice_bounds-put_run-end : goal.slice_bounds-put_run-end
slice_bounds-put_run-end c = sym (read (goal.at.slice_bounds-put_run-end c).After-read_words).lent

pub put_run-requires-clause-sound : goal.put_run-requires-clause-sound
put_run-requires-clause-sound c =
    let r = read (goal.at.put_run-requires-clause-sound c).After-read_words in
    (sounds (goal.at.put_run-requires-clause-sound c).After-start-started, omega (arith, r.lent, r.few))

pub put_run-requires-clause-buffers_long : goal.put_run-requires-clause-buffers_long
put_run-requires-clause-buffers_long c =
    let vertices : length c.args.vertices.now ≡ 30720 = omega arith in
    let polygons : length c.args.polygons.now ≡ 6144 = omega arith in
    rw (vertices, polygons)
    (always_long c.start-started.result.engine
    (sounds (goal.at.put_run-requires-clause-buffers_long c).After-start-started))

pub returns : goal.returns
returns c =
    let r = read (goal.at.returns c).After-read_words in
    put-as
    (replay-ran c.args.form c.args.rooms.vertices c.args.rooms.polygons c.args.input.now c.args.vertices.now
    c.args.polygons.now c.start-started.result c.start-started.ensures c.if-started-ne0.false r.is-input _ r.words)
    c.put_run.ensures
