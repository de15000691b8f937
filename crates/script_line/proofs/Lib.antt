pub mod Parts
pub mod Numerals
pub mod Fronts
pub mod Entries
pub mod Says
