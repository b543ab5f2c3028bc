pub mod Matching
pub mod Arguments
pub mod TakenFor
