pub mod Text
pub mod Number
pub mod Kind
pub mod Float
pub mod Value
pub mod Line
pub mod View
