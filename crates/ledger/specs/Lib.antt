pub mod Entries
pub mod Audit
pub mod ValidLedger
pub mod CountingMirror
pub mod Run
pub mod Calls
pub mod RunRules
pub mod Faults
