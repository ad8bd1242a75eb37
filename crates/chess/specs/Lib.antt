-- The book of chess: what is its own in a book of rounds.
pub mod Kinds
pub mod Asking
pub mod Rules
pub mod Page
pub mod Laws
pub mod Promises
