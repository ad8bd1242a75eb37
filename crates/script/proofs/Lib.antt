pub mod Left
pub mod Places
