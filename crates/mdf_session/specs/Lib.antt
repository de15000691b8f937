pub mod Counted
pub mod Session
pub mod Standing
pub mod Identified
