pub mod Turns
pub mod Listed
