use mathlib.Core.Path.{sym}
use Rattle.state.specs.List.{list_of}
use Rattle.state.proofs.ListLaws.{closed_else}
use Rattle.state.proofs.OpenListFromU32.from.Goals as goal

pub returns-in-1 : goal.returns-in-1
unfolding list_of
returns-in-1 c = simp c.in-1.is

pub returns-in-2 : goal.returns-in-2
unfolding list_of
returns-in-2 c = simp c.in-2.is

pub returns-in-3 : goal.returns-in-3
unfolding list_of
returns-in-3 c = simp c.in-3.is

pub returns-in-4 : goal.returns-in-4
unfolding list_of
returns-in-4 c = simp c.in-4.is

pub returns-in-5 : goal.returns-in-5
unfolding list_of
returns-in-5 c = simp c.in-5.is

pub returns-in_default : goal.returns-in_default
returns-in_default c =
    let rest = c.in_default.in_default-own.rest in
    sym (closed_else _ rest.0.0.0.0.1 rest.0.0.0.1 rest.0.0.1 rest.0.1 rest.1)
