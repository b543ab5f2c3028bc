pub mod Durations
pub mod Outcomes
pub mod Names
pub mod CallLines
pub mod Listing
pub mod Keeping
pub mod LineSink
