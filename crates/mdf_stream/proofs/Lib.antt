mod Firsts
pub mod Joins
pub mod Links
pub mod Moves
pub mod Ranges
pub mod Reached
pub mod Streams
pub mod Truths
pub mod Insides
pub mod Counts
