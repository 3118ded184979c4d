pub mod Log
pub mod Stream
pub mod ConcludingMirror
pub mod Cutting
pub mod LogRules
pub mod WholeLog
