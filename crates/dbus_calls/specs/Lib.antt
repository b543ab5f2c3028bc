pub mod Waiting
pub mod Answering
pub mod OwnerChanges
pub mod Changes
pub mod Events
pub mod Pairing
pub mod Kept
