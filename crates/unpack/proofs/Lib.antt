pub mod RefillLaws
pub mod TurnLaws
pub mod TurnTheorem
pub mod LoopLaws
