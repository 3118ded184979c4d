pub mod FormatTests
pub mod Formats
pub mod TableLaws
pub mod IdleLaws
