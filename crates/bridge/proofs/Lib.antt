pub mod Lines
pub mod Sharing
pub mod Numbers
