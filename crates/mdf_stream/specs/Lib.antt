pub mod Parts
pub mod Stretch
pub mod Range
pub mod Link
pub mod Truth
pub mod Stream
