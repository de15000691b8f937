pub mod Link
pub mod Channel
pub mod Group
pub mod Standing
pub mod Cost
pub mod Recordable
