pub mod Words
pub mod Commands
pub mod Texts
pub mod Faults
pub mod Parts
pub mod Load
pub mod Asked
pub mod Attached
