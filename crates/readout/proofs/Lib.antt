pub mod NumberLaws
pub mod ChunkLaws
pub mod RecordLaws
pub mod ReadoutLaws
