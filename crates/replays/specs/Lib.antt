pub mod Arguments
pub mod Replay
pub mod Inside
