pub mod Judge
pub mod Fill
pub mod Feed
