pub mod Answers
pub mod Transactions
pub mod Classes
pub mod Halls
pub mod Messages
pub mod Finder
pub mod Below
pub mod Numbers
