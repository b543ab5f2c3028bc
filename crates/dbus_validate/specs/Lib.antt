pub mod Seen
pub mod Validating
