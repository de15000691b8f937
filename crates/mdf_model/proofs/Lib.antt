pub mod Alone
mod Answers
pub mod Channels
-- what stands within the limits is read
pub mod Complete
mod Counted
pub mod Files
pub mod Founds
pub mod Fronts
pub mod Kepts
pub mod Fetches
pub mod Onces
pub mod Ruled
pub mod Sames
mod Samples
pub mod Stricts
pub mod Taken
mod Truths
mod Undefined
pub mod Wholes
pub mod Identified
mod Numbered
mod Pairs
