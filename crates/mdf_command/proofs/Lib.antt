mod Numbers
pub mod Pieces
pub mod Bounds
