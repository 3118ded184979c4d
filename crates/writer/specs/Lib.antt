pub mod Plan
pub mod Laying
pub mod OneWay
pub mod Filling
pub mod HoldingMirror
pub mod ValidWriter
pub mod Faults
pub mod SameMessages
