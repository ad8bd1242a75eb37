-- The book of bridge.
pub mod Kinds
pub mod Asking
pub mod Points
pub mod Rules
pub mod Page
pub mod Laws
pub mod Promises
