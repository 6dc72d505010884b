use mathlib.Core.Path.{sym, ◌∙◌}
use Rattle.stream.specs.Refusal.{call_number}
use Rattle.stream.proofs.RefusalLaws.{some_number, none-number}
use Rattle.feeding.proofs.LoopLaws.{told_none}
use Rattle.feeding.proofs.feed_items.Goals as goal

pub returns-then-is_some : goal.returns-then-is_some
returns-then-is_some c =
    told_none (call_number c.first_refusal-refusal.result) c.first_refusal-refusal.ensures
    (some_number c.first_refusal-refusal.result (sym c.is_some.ensures ∙ c.if-is_some.true))

pub run_turns-requires : goal.run_turns-requires
run_turns-requires c =
    sym c.first_refusal-refusal.ensures
    ∙ none-number c.first_refusal-refusal.result (sym c.is_some.ensures ∙ c.if-is_some.false)
