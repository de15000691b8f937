pub mod Fronts
pub mod Found
pub mod Lacking
pub mod Reached
pub mod Identified
pub mod Answering
pub mod Made
pub mod Refused
