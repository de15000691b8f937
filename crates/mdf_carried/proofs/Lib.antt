pub mod Apart
pub mod Carried
mod Complete
mod Counts
pub mod Entries
pub mod Founds
pub mod Grouped
pub mod Holds
pub mod Kept
pub mod Laid
pub mod Lists
pub mod Numbers
pub mod Onces
pub mod Placed
pub mod Records
pub mod Rows
pub mod Sampled
pub mod Samplings
pub mod Sessions
pub mod Splits
pub mod Trees
mod Values
