pub mod States
pub mod Seen
