pub mod Digits
pub mod Runs
