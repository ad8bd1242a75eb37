-- What a sheet comes to: the events of its lines, the pages after them, and the standings.
pub mod Running
pub mod Standings
