-- What a script says.
pub mod Scripts
-- Where a rehearsal begins.
pub mod Rehearsal
-- What is written down of its calls.
pub mod Heard
