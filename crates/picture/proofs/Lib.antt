pub mod Posts
pub mod Turns
