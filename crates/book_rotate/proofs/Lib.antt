pub mod Costs
mod Dones
mod Fills
mod Larges
mod Layouts
mod Moves
mod Parts
