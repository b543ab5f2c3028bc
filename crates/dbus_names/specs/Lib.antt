pub mod Filters
pub mod NameCalls
pub mod Telling
pub mod NameStates
pub mod Kept
pub mod Laws
