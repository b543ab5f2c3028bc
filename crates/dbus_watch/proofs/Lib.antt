pub mod Watching
pub mod Tables
