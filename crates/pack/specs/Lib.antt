pub mod Packing
pub mod Inputs
