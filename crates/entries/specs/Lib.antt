-- What the lines of a scoresheet say: a text in lines, a line in words, a word as a field, and a whole line.
pub mod Words
pub mod Fields
pub mod Reading
