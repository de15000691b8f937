pub mod Beginnings
pub mod Adding
pub mod Codes
pub mod Rules
pub mod Queueing
pub mod Publishing
pub mod Lasting
