-- What a congress means, and what each call makes of it.
pub mod Refusals
pub mod Outcomes
pub mod State
pub mod Tables
pub mod Entries
pub mod Kept
pub mod Meaning
pub mod Sending
pub mod Queue
pub mod Calls
pub mod Telling
pub mod Requests
pub mod Votes
pub mod Replies
pub mod Deliver
pub mod Work
