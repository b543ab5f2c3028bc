pub mod Serials
pub mod Waiting
