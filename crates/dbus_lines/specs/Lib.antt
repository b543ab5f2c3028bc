pub mod Lines
pub mod Gathering
pub mod LineReading
