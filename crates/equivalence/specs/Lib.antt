pub mod EqualEnds
pub mod Demand3
pub mod Calls
pub mod Both
pub mod RoundTrip
