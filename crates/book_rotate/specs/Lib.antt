pub mod Part
pub mod Begin
pub mod Fill
