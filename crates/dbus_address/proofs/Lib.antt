pub mod Rests
pub mod Faults
pub mod Unique
pub mod Parts
pub mod FirstFlaw
pub mod Written
pub mod Appends
pub mod Names
