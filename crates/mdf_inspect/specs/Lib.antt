pub mod Opened
pub mod Paged
pub mod Reading
pub mod Check
pub mod Info
pub mod Question
pub mod Export
pub mod Attachments
