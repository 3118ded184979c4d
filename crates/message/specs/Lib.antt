pub mod Heads
pub mod Places
pub mod Charges
pub mod Kinds
pub mod HeadRules
