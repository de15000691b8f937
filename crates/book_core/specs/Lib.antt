pub mod Machine
pub mod Law
