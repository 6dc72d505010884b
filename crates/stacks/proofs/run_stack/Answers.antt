use Rattle.std.proofs.Common.{sym, ◌∙◌, eq-eqb, ne_eqb}
use Rattle.stacks.specs.Stack.{run_stack}
use Rattle.stacks.proofs.run_stack.Goals as goal
use Rattle.stacks.proofs.run_stack.Goals.{then-uses_pair, else-uses_pair+then-transform-eq3, else-uses_pair+else-transform-eq3}

pub returns : goal.returns
unfolding run_stack
returns c =
    let mode = c.args.transform.now.mode in
    let uses = sym c.uses_pair.ensures in
    elim c.if-uses_pair.branch [
      | then-uses_pair w ↦
          let ran = w.run_pair-failed.ensures in
          rw (w.transform-is, w.stacks-is, w.failed-is, ran.error, uses ∙ w.if-uses_pair.true)
          (rw (← ran.moved c.args.transform.now))
      | else-uses_pair+then-transform-eq3 w ↦
          let ran = w.run_single.ensures in
          rw (w.transform-is, w.stacks-is, w.failed-is, ran.error, ran.moved, uses ∙ w.if-uses_pair.false)
          (rw (eq-eqb mode 3 w.if-transform-eq3.true))
      | else-uses_pair+else-transform-eq3 w ↦
          let ran = w.run_single-else-transform-eq3.ensures in
          rw (w.transform-is, w.stacks-is, w.failed-is, ran.error, ran.moved, uses ∙ w.if-uses_pair.false)
          (rw (ne_eqb mode 3 w.if-transform-eq3.false))
    ]
