pub mod Kept
pub mod Asked
pub mod Told
pub mod Ends
pub mod Run
