pub mod Drafts
mod Fits
pub mod Layings
pub mod Lines
mod PlanText
pub mod Respelled
pub mod Sketches
pub mod Sounds
pub mod Spells
pub mod Steps
