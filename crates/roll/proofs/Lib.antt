pub mod Entries
pub mod Numbers
