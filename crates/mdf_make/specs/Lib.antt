pub mod Tool
pub mod Making
pub mod Finalize
pub mod Sort
pub mod Cut
pub mod Concat
pub mod Attach
pub mod Blamed
