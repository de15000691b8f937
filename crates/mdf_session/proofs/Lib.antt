pub mod Counts
pub mod Keeps
mod Firsts
pub mod Identified
