pub mod Master
pub mod Kept
pub mod Cut
pub mod Word
