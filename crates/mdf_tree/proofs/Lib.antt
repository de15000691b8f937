pub mod Has
pub mod Texts
pub mod Numbers
pub mod Convs
pub mod Channels
pub mod Groups
pub mod Heads
pub mod Placing
mod Counts
mod Past
