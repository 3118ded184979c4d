pub mod ReadingLaws
pub mod StateLaws
pub mod CallTheorem
pub mod CutTheorem
pub mod TurnLaws
pub mod RoomLaws
