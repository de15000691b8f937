mod Appends
mod Backs
mod Costs
mod Flushes
mod Fronts
mod Keeping
pub mod Lasts
mod Parting
mod Putting
mod Resting
mod Sharing
mod Turning
mod Happening
