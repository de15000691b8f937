pub mod Ident
pub mod Head
