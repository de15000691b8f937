pub mod Units
mod Found
mod Loops
pub mod Opens
mod Missing
mod Fronts
mod Laid
mod Left
mod Resting
mod Stages
mod Buffers
pub mod Carrying
mod Chains
pub mod Once
pub mod Rested
pub mod Begun
pub mod Appends
