pub mod Recording
pub mod Values
pub mod Counts
pub mod Titled
pub mod Session
pub mod Standing
pub mod Front
