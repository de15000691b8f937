pub mod Trees
mod Fronts
mod Numbered
mod Writables
pub mod Finding
pub mod Lists
mod Links
pub mod Counteds
mod Histories
pub mod Wholes
pub mod SessionTrees
pub mod Cleans
pub mod Filing
