pub mod TextNumbers
pub mod Places
pub mod Handles
pub mod Held
pub mod Searches
pub mod Owners
pub mod Groups
pub mod Eavesdropping
