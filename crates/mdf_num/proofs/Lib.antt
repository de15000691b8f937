pub mod Joins
pub mod Numbers
