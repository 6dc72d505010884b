pub mod WordLaws
pub mod ByteLaws
pub mod ExtentLaws
pub mod MeasureLaws
pub mod PutLaws
pub mod CallLaws
pub mod Capacity
