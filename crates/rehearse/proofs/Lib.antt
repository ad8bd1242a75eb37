pub mod Hearing
pub mod Turns
pub mod Written
