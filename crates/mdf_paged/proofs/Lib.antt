pub mod Measures
mod Numbers
mod Placed
pub mod Shown
pub mod Kepts
pub mod Asked
