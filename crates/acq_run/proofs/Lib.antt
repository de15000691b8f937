pub mod Doing
pub mod Gathering
pub mod Groups
pub mod Later
pub mod Looks
pub mod Owning
pub mod Crossing
mod Performing
mod Pushing
pub mod Telling
