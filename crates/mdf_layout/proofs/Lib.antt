pub mod Entered
pub mod Stays
mod Apart
mod RoundTrip
pub mod Rules
mod Overlaps
pub mod Numbers
mod Later
pub mod Sizes
pub mod Encoded
pub mod Once
pub mod Found
pub mod Bridge
pub mod Pieces
pub mod Behind
pub mod Joined
mod Sealing
mod Longs
pub mod Nexts
pub mod Costs
