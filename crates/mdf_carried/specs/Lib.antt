pub mod Recovers
pub mod Recovered
pub mod Limits
pub mod Samples
