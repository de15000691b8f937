pub mod Same
pub mod Difference
pub mod Moved
pub mod Joined
pub mod Wide
pub mod Placed
pub mod Concat
pub mod Making
