pub mod Causes
pub mod Checks
pub mod Order
