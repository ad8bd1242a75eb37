pub mod Model
pub mod Apart
pub mod Keys
pub mod Below
pub mod Sheets
pub mod Numbers
pub mod Halls
