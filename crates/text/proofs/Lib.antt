pub mod DecimalLaws
pub mod WriteLaws
pub mod LineExamples
pub mod HexLaws
pub mod MessageLaws
