pub mod Fronts
pub mod Heads
pub mod Identities
pub mod Lacks
pub mod Spends
pub mod Reached
