pub mod Sort
pub mod Sorted
pub mod Places
pub mod Kept
pub mod Made
pub mod Same
