mod Blaming
pub mod Finalizing
pub mod Leaving
mod WithoutRest
