pub mod Unpacking
pub mod Stepping
pub mod Cutting
