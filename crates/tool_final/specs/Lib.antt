pub mod Finalized
pub mod Finalize
pub mod Keeping
