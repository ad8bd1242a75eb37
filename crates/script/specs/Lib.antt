-- What the lines of a rehearsal's script say: a word as a field, an operation in words, the parts of an issue, and a whole line.
pub mod Words
pub mod Operations
pub mod Parts
pub mod Reading
