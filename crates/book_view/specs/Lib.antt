pub mod Log
pub mod Names
pub mod Copies
pub mod Handed
pub mod Known
pub mod Latest
