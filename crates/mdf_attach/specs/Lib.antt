pub mod Says
pub mod Listed
pub mod Stands
pub mod Lacks
pub mod Shown
