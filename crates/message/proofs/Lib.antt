pub mod HeadLaws
pub mod PlaceLaws
pub mod ChargeLaws
pub mod KindLaws
pub mod HeadCases
pub mod HeadRuleLaws
pub mod PlaceRuleLaws
