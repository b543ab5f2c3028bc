pub mod CommandLine
pub mod Telling
pub mod Worded
pub mod Limiting
pub mod Owners
pub mod Selections
pub mod Named
pub mod Told
