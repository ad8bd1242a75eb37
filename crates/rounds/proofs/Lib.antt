pub mod Stay
pub mod Numbers
pub mod Gains
