-- A run keeps what its report asks: the engine sound, the buffers long enough, no more taken than there is.
use mathlib.Core.Bool.{Bool, true, false, cond}
use mathlib.Core.List.{List, []}
use mathlib.Core.Path.{◌≡◌, refl, sym, ap, ◌∙◌}
use Prim.Native.Nat.{ℕ, ◌*◌, ◌≤◌}
use native.Mathlib.Omega.{arith}
use lib.Dec.{eqb}
use lib.IntN.{ℤ}
use lib.ListN.{length}
use borrow.Author.Tests.{eq-eqb, ne_eqb, le-leb}
use Rattle.words.specs.Words.{words_of}
use Rattle.stream.specs.declared.Form.{Form}
use Rattle.stream.specs.declared.Form.TheVariants.{Packed, Log}
use Rattle.stream.specs.Call.{Machine}
use Rattle.stream.specs.Read.{writes}
use Rattle.stream.specs.Input.{is_input}
use Rattle.stream.specs.Step.{word_step, port_step}
use Rattle.stream.specs.Feed.{Fed}
use Rattle.stream.proofs.UnpackLaws.{length-writes}
use Rattle.stream.proofs.FeedLaws.{list-within}
use Rattle.state.specs.declared.Core.{Core}
use Rattle.state.specs.declared.Engine.{Engine}
use Rattle.state.specs.declared.Answer.{Answer}
use Rattle.state.specs.declared.ListAnswer.{ListAnswer}
use Rattle.state.specs.Fresh.{start}
use Rattle.state.specs.Sound.{sound}
use Rattle.state.proofs.SoundLaws.{sound-parts}
use Rattle.state.proofs.GeometryLaws.{geometry-ranges, room_limits}
use Rattle.polygons.specs.Buffers.{Buffered, buffered, long_enough}
use Rattle.execute.specs.Call.{engine_rules, machine_of, fed_of, feed_as}
use Rattle.execute.proofs.CallKeeps.{EngineKept, kept-by-word, kept-by-port, list-kept}
use Rattle.listing.specs.Text.{refused_line}
use Rattle.listing.proofs.LineLaws.{length-refused_line}
use Rattle.listing.proofs.PutLaws.{length-with_bytes}
use Rattle.readout.proofs.ReadoutLaws.{text_rules}
use Rattle.listing.specs.declared.Text.{Text}
use Rattle.listing.specs.Buffer.{with_bytes}
use Rattle.replays.specs.Replay.{refusal_text, ran, replay}
use Rattle.replays.specs.Inside.{PutsReport}

pub run-taken : (form : Form) (m : Machine (Buffered Core)) (ws : List ℕ) → (feed_as form m ws).taken ≤ length ws
run-taken Log m ws = omega (arith, list-within engine_rules port_step m (writes ws), length-writes ws)
run-taken Packed m ws = list-within engine_rules word_step m ws

-- what a run leaves
pub record RunKept (e : Engine) (vertices : List ℤ) (polygons : List ℕ) (r : ListAnswer) (vs : List ℤ) (ps : List ℕ)
    (count : ℕ) : Type 0 where
  pub is-sound : sound r.engine ≡ true
  pub taken : r.taken ≤ count
  pub long : long_enough r.engine.core.registers.geometry.rooms (length vs) (length ps)
      ≡ long_enough e.core.registers.geometry.rooms (length vertices) (length polygons)

run-kept-by : (e : Engine) (vertices : List ℤ) (polygons : List ℕ) (r : ListAnswer) (vs : List ℤ) (ps : List ℕ)
    (count : ℕ) → EngineKept e vertices polygons r.engine vs ps → r.taken ≤ count
    → RunKept e vertices polygons r vs ps count
run-kept-by e vertices polygons r vs ps count k h =
    record {
      is-sound = k.is-sound;
      taken = h;
      long = rw (k.rooms, k.vertices-length, k.polygons-length);
    }

pub run-kept : (form : Form) (e : Engine) (vertices : List ℤ) (polygons : List ℕ) → sound e ≡ true
    → (ws : List ℕ) (r : ListAnswer) (vs : List ℤ) (ps : List ℕ)
    → fed_of r vs ps ≡ feed_as form (machine_of e vertices polygons) ws
    → RunKept e vertices polygons r vs ps (length ws)
run-kept Log e vertices polygons h ws r vs ps told =
    run-kept-by e vertices polygons r vs ps (length ws)
    (list-kept e vertices polygons h port_step (kept-by-port e vertices polygons) (writes ws) r vs ps told)
    (omega (
      arith,
      ap (λ (f : Fed (Buffered Core)). f.taken) told,
      run-taken Log (machine_of e vertices polygons) ws,
    ))
run-kept Packed e vertices polygons h ws r vs ps told =
    run-kept-by e vertices polygons r vs ps (length ws)
    (list-kept e vertices polygons h word_step (kept-by-word e vertices polygons) ws r vs ps told)
    (omega (
      arith,
      ap (λ (f : Fed (Buffered Core)). f.taken) told,
      run-taken Packed (machine_of e vertices polygons) ws,
    ))

-- ---- the line of a refusal

pub no_refusal : (number place : ℕ) → number ≡ 0 → refusal_text number place ≡ []
unfolding refusal_text
no_refusal number place z = rw (eq-eqb number 0 z)

pub one-refusal : (number place : ℕ) → (number ≡ 0 → ⊥) → refused_line number place ≡ refusal_text number place
unfolding refusal_text
one-refusal number place d = rw (ne_eqb number 0 d)

pub length-refusal_text : (number place : ℕ) → length (refusal_text number place) ≤ 30
unfolding refusal_text
length-refusal_text number place = by (eqb number 0)
  where
    by : (t : Bool) → length (cond t [] (refused_line number place)) ≤ 30
    by true = omega arith
    by false = length-refused_line number place

-- ---- the report

-- buffers for the largest rooms are long enough for every sound engine
pub always_long : (e : Engine) → sound e ≡ true
    → long_enough e.core.registers.geometry.rooms 30720 6144 ≡ true
unfolding long_enough
always_long e h =
    let g = e.core.registers.geometry in
    let limits = room_limits g.rooms.vertices g.rooms.polygons
    (geometry-ranges g (sound-parts e h).geometry).rooms in
    simp (
      le-leb (5 * g.rooms.vertices) 30720 (omega (arith, limits.0)),
      le-leb (3 * g.rooms.polygons) 6144 (omega (arith, limits.1)),
    )

-- a is what the start answered
module _ (form : Form) (v p : ℕ) (input : List ℕ) (vertices : List ℤ) (polygons : List ℕ) (a : Answer)
    (told : a ≡ start v p) where
  pub rooms-refused : (a.number ≡ 0 → ⊥)
      → buffered (refused_line 11 0) vertices polygons ≡ replay form v p input vertices polygons
  unfolding replay
  rooms-refused d = rw (ne_eqb (start v p).number 0 (λ z. d (ap (λ (x : Answer). x.number) told ∙ z)))

  module _ (z : a.number ≡ 0) where
    started : eqb (start v p).number 0 ≡ true
    started = eq-eqb (start v p).number 0 (ap (λ (x : Answer). x.number) (sym told) ∙ z)

    pub input-refused : is_input form (length input) ≡ false
        → buffered (refused_line 7 0) vertices polygons ≡ replay form v p input vertices polygons
    unfolding replay
    input-refused f = rw (started, f)

    pub replay-ran : is_input form (length input) ≡ true → (ws : List ℕ) → ws ≡ words_of input
        → ran (feed_as form (machine_of a.engine vertices polygons) ws) ≡ replay form v p input vertices polygons
    unfolding replay
    replay-ran t ws e = rw (started, t, told, e)

-- a report that is the same was put
pub put-as : {b c : Buffered (List ℕ)} {old text : Text} {vertices : List ℤ} {polygons : List ℕ} → b ≡ c
    → PutsReport b old text vertices polygons → PutsReport c old text vertices polygons
put-as {b} {c} e p = rw (← e) p

-- the line of a refusal was put, and the buffers are as they were
pub refusal-put : (number : ℕ) {old text : Text} {vertices : List ℤ} {polygons : List ℕ}
    → text ≡ with_bytes old (refused_line number 0)
    → PutsReport (buffered (refused_line number 0) vertices polygons) old text vertices polygons
refusal-put number {old} p =
    let line = refused_line number 0 in
    record {
      text-is = p;
      within = rw p (omega (arith, length-with_bytes old line, length-refused_line number 0));
      vertices-are = refl;
      polygons-are = refl;
    }

pub ruleset report_rules = (text_rules, length-refusal_text)
