pub mod Containers
pub mod Fills
pub mod Outputs
pub mod LongLaws
pub mod Refills
