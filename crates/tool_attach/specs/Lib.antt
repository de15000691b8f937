pub mod Attached
pub mod Bytes
pub mod Carry
pub mod Making
