mod Calls
mod Shut
mod Finish
pub mod Marks
