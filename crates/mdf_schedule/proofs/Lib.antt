pub mod Bits
pub mod Chunks
mod Closed
mod Contents
pub mod Fields
mod Files
mod Found
mod Groups
mod Lefts
mod Measures
pub mod Owns
pub mod Pieces
mod Stored
mod Alike
mod Moving
mod Joins
mod Parts
mod Finished
mod Whole
