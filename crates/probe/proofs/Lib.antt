pub mod JudgeLaws
pub mod FillLaws
