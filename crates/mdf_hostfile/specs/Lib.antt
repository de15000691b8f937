pub mod Call
pub mod Disk
