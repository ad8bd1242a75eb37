-- lists, functions of the hall
pub mod Lists
pub mod Pages
-- the plain order, the queue and the post
pub mod Plain
pub mod Queue
pub mod Posting
-- what a call does
pub mod Lawful
pub mod Happens
pub mod Cases
-- what every congress keeps
pub mod Sound
-- what is kept of the order, by small changes and by each call
pub mod Invariant
pub mod Effects
pub mod Changes
pub mod Easy
pub mod Issue
pub mod Vote
pub mod Request
pub mod Work
pub mod Gives
-- what is confirmed
pub mod Confirmed
-- removals
pub mod Tokens
pub mod Moves
pub mod Removal
pub mod Main
pub mod Conducted
