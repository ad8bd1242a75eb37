-- What becomes of messages.
pub mod Arrows
-- What is drawn of a list of calls.
pub mod Pictures
-- That what is written down of the post is true.
pub mod Posts
