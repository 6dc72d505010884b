pub mod BytesLaws
pub mod DemandLaws
