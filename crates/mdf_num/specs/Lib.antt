pub mod formers
pub mod Plan
pub mod Halt
pub mod Span
pub mod System
