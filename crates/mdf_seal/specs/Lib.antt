pub mod Images
pub mod Seal
