pub mod Beginnings
pub mod Decodes
