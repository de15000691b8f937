pub mod Left
pub mod Conv
pub mod Link
pub mod Cost
pub mod Standing
