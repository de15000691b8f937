pub mod Table
pub mod Export
