mod Rows
mod Extras
pub mod Onces
-- the groups that are read are those that stand in the file
pub mod Stands
pub mod Recordables
pub mod Costs
mod Held
-- a refusal is true of the file
pub mod Truths
pub mod Uniques
-- what stands with at most four conversions open at once stands in the standard's words
pub mod Nested
pub mod Reached
-- what stands and is few is found
pub mod Enough
