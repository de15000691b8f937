pub mod Number
pub mod Cause
pub mod Identification
pub mod Block
pub mod Field
pub mod Row
pub mod Value
pub mod Form
