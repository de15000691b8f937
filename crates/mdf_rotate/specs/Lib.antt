pub mod Words
pub mod Course
pub mod Part
pub mod Text
pub mod Whole
pub mod Rotate
