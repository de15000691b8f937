mod Sums
mod Anys
mod Lists
pub mod Causing
mod Lasting
mod Keeps
mod Stores
mod Devices
mod Ends
mod Covering
pub mod Beginning
mod Seats
mod Takings
mod Given
mod Writing
mod Finishing
mod Following
mod Flushes
mod Appending
mod Handing
