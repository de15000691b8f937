pub mod Fault
pub mod Layouts
pub mod Records
pub mod Values
pub mod Samples
pub mod Contents
pub mod Found
pub mod Kept
