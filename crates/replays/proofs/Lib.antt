pub mod ArgumentLaws
pub mod ReplayLaws
