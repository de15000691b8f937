pub mod Complete
pub mod Flags
pub mod Settings
pub mod Named
pub mod Ended
pub mod Records
pub mod Completed
pub mod InWords
