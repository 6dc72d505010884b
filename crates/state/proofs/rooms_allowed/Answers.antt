use Rattle.state.proofs.rooms_allowed.Goals as goal

pub returns : goal.returns
returns c = simp (c.room_allowed-2.ensures, c.room_allowed.ensures)
