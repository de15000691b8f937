mod BitLists
mod Bits
mod Masks
pub mod Orders
pub mod Powers
pub mod Spots
