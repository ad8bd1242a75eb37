-- Worked examples of the rules.
pub mod Chess
pub mod Bridge
pub mod Lines
pub mod Calls
pub mod Examples
