pub mod Agree
pub mod CallLaws
pub mod BothLaws
pub mod RoundTripLaws
