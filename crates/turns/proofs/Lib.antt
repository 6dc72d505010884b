pub mod HeldLaws
pub mod ManyLaws
pub mod TurnLaws
pub mod WordTurn
pub mod WriteTurn
