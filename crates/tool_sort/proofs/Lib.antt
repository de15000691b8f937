pub mod Behind
mod Ends
mod Fields
mod Holding
pub mod Indexes
pub mod Keeping
mod Parts
mod Reading
mod Records
mod Sames
mod Standing
mod Streams
