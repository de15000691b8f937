pub mod Text
pub mod Parts
pub mod Conv
pub mod Count
pub mod Places
pub mod Group
pub mod Head
pub mod Sized
