pub mod OffsetLaws
pub mod WindowLaws
pub mod TurnTheorem
pub mod LoopLaws
