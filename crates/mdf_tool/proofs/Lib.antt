pub mod Images
pub mod Unread
