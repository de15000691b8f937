pub mod Patches
pub mod Crash
pub mod Goes
pub mod Images
mod Tapes
mod Moments
mod Steps
