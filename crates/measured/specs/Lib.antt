-- What the rows mean.
pub mod Rows
-- What is written.
pub mod Measured
-- What the book of a new measuring needs.
pub mod Rooms
