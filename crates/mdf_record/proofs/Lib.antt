mod Heads
mod Lengths
mod Feeding
mod Handing
mod Begins
pub mod Runs
mod Causing
pub mod Recording
mod Idle
pub mod Recovering
mod Texts
mod Ending
mod Tasking
mod Taking
mod Fed
