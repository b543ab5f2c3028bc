pub mod Sharing
pub mod Kept
