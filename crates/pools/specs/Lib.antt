pub mod Pools
pub mod Rows
pub mod TalliesMirror
pub mod Tallies
pub mod PoolRules
pub mod Faults
