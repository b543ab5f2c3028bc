pub mod Standing
pub mod Reading
pub mod Answers
pub mod Shown
pub mod Handing
pub mod Runs
pub mod Sending
