pub mod Words
pub mod Seated
pub mod Lists
