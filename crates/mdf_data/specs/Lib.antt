pub mod Record
pub mod Splitting
pub mod Places
pub mod Table
pub mod Split
pub mod Kept
pub mod Bodies
