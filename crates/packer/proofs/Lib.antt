pub mod ValueLaws
pub mod CommandWalk
pub mod GroupLaws
pub mod PutLaws
pub mod CallLaws
pub mod Capacity
