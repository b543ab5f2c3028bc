pub mod Decided
pub mod Noted
pub mod Sent
pub mod TakenFor
