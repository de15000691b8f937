pub mod Page
pub mod Cause
pub mod Pages
