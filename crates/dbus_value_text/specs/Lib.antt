pub mod Gaining
pub mod Forms
pub mod Runs
pub mod Writing
pub mod WritingLaws
