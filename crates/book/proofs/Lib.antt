pub mod Apart
pub mod Below
pub mod Keys
pub mod Parts
pub mod Tables
pub mod Turned
