pub mod CopyLaws
pub mod ZeroTest
