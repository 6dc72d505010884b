use mathlib.Core.Bool.{true, false}
use mathlib.Core.List.{List}
use mathlib.Core.Path.{◌≡◌, refl, sym, ap, ◌∙◌}
use Prim.Native.Nat.{ℕ, ◌^◌, ◌<◌}
use native.Mathlib.Omega.{arith}
use lib.IntN.{ℤ}
use lib.ListN.{length}
use borrow.Author.Rules.{rules}
use Rattle.std.specs.Prelude.{Option, IfSome}
use Rattle.stream.specs.Pending.{Pending}
use Rattle.stream.specs.Refusal.{call_number}
use Rattle.stream.specs.Call.{machine}
use Rattle.stream.specs.Feed.{fed}
use Rattle.state.specs.declared.Core.{Core}
use Rattle.state.specs.declared.Stream.{Stream}
use Rattle.state.specs.Clip.{clip_of}
use Rattle.polygons.specs.Buffers.{Buffered, buffered}
use Rattle.execute.specs.declared.Operation.{Operation}
use Rattle.execute.specs.Operation.{operation_of}
use Rattle.execute.specs.Execute.{run_operation, execute}
use Rattle.execute.specs.Call.{machine_of}
use Rattle.execute.proofs.Calls.{passed}
use Rattle.turns.specs.Inside.{command_in, has_ended, number_in, to_come, items_in, pending_due, is_packed}
use Rattle.feeding.specs.Inside.{engine_from}
use Rattle.feeding.proofs.Looping.{Feeding, goes_on, looping-ran, none-run, same_size, turn-less, looping-long}
use Rattle.feeding.proofs.First.{first-due, looping-first}
use Rattle.feeding.proofs.Ends.{end-pending, ended_as, ended_untouched, end-due, end-fit}
use Rattle.feeding.proofs.run_turns.Goals as goal
use Rattle.feeding.proofs.run_turns.Goals.{After-turn_at-turn}

-- ---- a turn that goes on

module _ (c : After-turn_at-turn) (more : has_ended c.turn_at-turn.result.outcome ≡ false) where
  -- fewer items or commands are to come
  less : to_come (items_in c.args.form (length c.args.words.now)) c.turn_at-turn.result.next c.turn_at-turn.result.begun
      < to_come (items_in c.args.form (length c.args.words.now)) c.loop-command.taken c.loop-command.begun
  less =
      turn-less c.args.form c.args.words.now c.loop-command.taken c.loop-command.begun c.loop-command.engine.stream.held
      c.turn_at-turn.result c.turn_at-turn.new.held c.turn_at-turn.ensures.turned_as more

  -- the parameters that are held, and the core and the buffers, after the turn
  abbrev held : List ℕ
  held = c.turn_at-turn.new.held

  abbrev before-it : Buffered Core
  before-it = buffered c.loop-command.engine.core c.loop-command.vertices c.loop-command.polygons

  -- what the loop holds once the turn's command has run
  again : (k : Core) (vs : List ℤ) (ps : List ℕ) (clip : Option (List ℤ))
      → buffered k vs ps ≡ execute (command_in c.turn_at-turn.result.outcome) held before-it
      → IfSome clip (λ m. m ≡ clip_of k.registers.transform)
      → Feeding c.args.engine.now c.args.vertices.now c.args.polygons.now c.args.form c.is_packed-packed.result
      c.args.words.now c.turn_at-turn.result.next c.turn_at-turn.result.begun held k vs ps clip
  again k vs ps clip ran clip_is =
      let l = c.loop-command in
      let a = c.args in
      let call = c.turn_at-turn in
      let small = call.ensures.queue_bounded in
      record {
        looping = looping-ran a.engine.now a.vertices.now a.polygons.now c.requires a.words.now l.taken l.begun
            l.engine.stream.held before-it call.result held a.form l.invariant.looping call.ensures.turned_as small.0
            small.1 (buffered k vs ps) ran;
        clip_is = clip_is;
        held-long = same_size a.form a.words.now l.taken l.begun l.engine.stream.held call.result held
            call.ensures.turned_as ∙ l.invariant.held-long;
        untouched = λ z. absurd (goes_on a.form a.words.now l.taken l.begun l.engine.stream.held call.result held
            call.ensures.turned_as more (λ none. (l.invariant.untouched none).0) z);
      }

pub loop-command-init : goal.loop-command-init
loop-command-init c =
    let e = c.args.engine.now in
    let begun = c.begun_of-begun.ensures in
    let small : e.stream.queue < 2 ^ 32 = search rules in
    rw begun.value
    (record {
      looping = looping-first e c.args.vertices.now c.args.polygons.now c.requires c.args.form
          c.is_packed-packed.result c.args.words.now begun.held_len small
          (c.is_packed-packed.ensures ∙ ap is_packed begun.value);
      clip_is = tt;
      held-long = begun.held_len;
      untouched = λ z. (first-due e.stream begun.held_len small (passed e _ _ c.requires).stream, refl);
    })

pub run-requires-clause-buffers_long : goal.run-requires-clause-buffers_long
run-requires-clause-buffers_long c =
    looping-long c.args.engine.now c.args.vertices.now c.args.polygons.now c.requires c.loop-command.invariant.looping

pub loop-command-smaller-in-Runs : goal.loop-command-smaller-in-Runs
loop-command-smaller-in-Runs c =
    less (goal.at.loop-command-smaller-in-Runs c).After-turn_at-turn (ap has_ended c.in-Runs.is)

pub loop-command-preserved-in-Runs : goal.loop-command-preserved-in-Runs
unfolding execute
loop-command-preserved-in-Runs c =
    let l = c.loop-command in
    let s : Buffered Core = buffered l.engine.core l.vertices l.polygons in
    again (goal.at.loop-command-preserved-in-Runs c).After-turn_at-turn (ap has_ended c.in-Runs.is) c.run.new.core
    c.run.new.vertices c.run.new.polygons c.run.new.clip
    (c.run.ensures.ran
    ∙ ap (λ (o : Operation). run_operation o c.turn_at-turn.new.held s)
    (c.from-operation.ensures ∙ sym (ap operation_of (ap command_in c.in-Runs.is))))
    c.run.ensures.clip_known

pub loop-command-smaller : goal.loop-command-smaller
loop-command-smaller c =
    less (goal.at.loop-command-smaller c).After-turn_at-turn (ap has_ended c.in-GoesOn.is)

pub loop-command-preserved : goal.loop-command-preserved
loop-command-preserved c =
    let l = c.loop-command in
    let s : Buffered Core = buffered l.engine.core l.vertices l.polygons in
    let held = c.turn_at-turn.new.held in
    again (goal.at.loop-command-preserved c).After-turn_at-turn (ap has_ended c.in-GoesOn.is) l.engine.core
    l.vertices l.polygons l.clip
    (sym (ap (λ (n : ℕ). execute n held s) (ap command_in c.in-GoesOn.is) ∙ none-run held s))
    l.invariant.clip_is

pub returns-in-Ends : goal.returns-in-Ends
returns-in-Ends c =
    let a = c.args in
    let e = a.engine.now in
    let l = c.loop-command in
    let r = c.turn_at-turn.result in
    let told = c.turn_at-turn.ensures in
    let new = c.turn_at-turn.new.held in
    let old = l.engine.stream.held in
    let k : Core = l.engine.core in
    let t : Buffered Core = buffered k l.vertices l.polygons in
    let end : has_ended r.outcome ≡ true = ap has_ended c.in-Ends.is in
    let number : call_number c.in-Ends.refusal ≡ number_in r.outcome = sym (ap number_in c.in-Ends.is) in
    record {
      is =
          ap (λ (x : Stream). fed r.next (call_number c.in-Ends.refusal) (machine_of (engine_from k x) l.vertices
          l.polygons)) c.put_begun.ensures
          ∙ ap (λ (p : Pending). fed r.next (call_number c.in-Ends.refusal) (machine t p))
          (end-pending r.begun new told.queue_bounded.2
          (end-fit e a.vertices.now a.polygons.now c.requires a.words.now l.taken l.begun old t r new a.form
          told.turned_as)
          (end-due e a.vertices.now a.polygons.now c.requires a.words.now l.taken l.begun old t r new a.form
          told.turned_as end) _ refl)
          ∙ ap (λ (n : ℕ). fed r.next n (machine t (pending_due r.begun new))) number
          ∙ ended_as e a.vertices.now a.polygons.now c.requires a.words.now l.taken l.begun old t r new a.form
          l.invariant.looping told.turned_as end;
      given_back = λ n z.
          ap (engine_from k) c.put_begun.ensures
          ∙ ended_untouched e a.vertices.now a.polygons.now c.requires a.words.now l.taken l.begun old t r new a.form
          told.turned_as end (λ q. n (number ∙ q)) z k l.invariant.untouched l.invariant.held-long
          told.queue_bounded.2;
    }
