pub mod NumberLaws
pub mod EncodeLaws
pub mod RecordLaws
pub mod NumberEdges
pub mod NumberTakes
