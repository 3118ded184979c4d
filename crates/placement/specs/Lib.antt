pub mod Cells
pub mod Checking
pub mod Rules
pub mod Completion
pub mod Faults
