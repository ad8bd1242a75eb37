-- What lists of calls come to, and what is promised of them.
pub mod Plain
pub mod History
pub mod Runs
pub mod Promises
pub mod Removal
pub mod Conduct
