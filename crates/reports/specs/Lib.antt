pub mod Report
pub mod Unpack
pub mod Pack
pub mod Inside
