mod Steps
mod Counts
pub mod Apart
mod Moves
pub mod Finds
mod Joinings
mod Holds
mod Streams
mod Groups
mod Ends
mod Plain
