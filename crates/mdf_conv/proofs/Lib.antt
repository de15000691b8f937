pub mod Fronts
mod Levels
pub mod Founds
pub mod Costs
pub mod Truths
pub mod Uniques
pub mod Reached
