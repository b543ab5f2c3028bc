pub mod Rules
pub mod Explained
pub mod Outcomes
pub mod Running
pub mod Steps
pub mod Runs
