use Rattle.turns.proofs.turn_at.Goals as goal

pub returns-in-Packed-clause-turned_as : goal.returns-in-Packed-clause-turned_as
returns-in-Packed-clause-turned_as c = rw c.in-Packed.is c.word_turn.ensures

pub returns-in-Log-clause-turned_as : goal.returns-in-Log-clause-turned_as
returns-in-Log-clause-turned_as c = rw c.in-Log.is c.write_turn.ensures.turned
