pub mod Check
pub mod Feed
