-- The entry on the caller's own record.
use Rattle.state.specs.declared.Engine.{Engine}
use Rattle.state.specs.declared.Answer.{Answer}
use Rattle.nauvelppi.specs.declared.CallAnswer.{CallAnswer}

-- what the entry on the caller's own record answers, with the record after the call: the answer of the call by value
abbrev pub in_place : CallAnswer → Engine → Answer
in_place r engine = record { number = r.number; place = r.place; engine = engine }
