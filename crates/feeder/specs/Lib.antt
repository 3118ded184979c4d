pub mod Due
pub mod Feeding
pub mod Rules
pub mod Asks
