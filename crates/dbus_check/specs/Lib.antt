pub mod Heading
pub mod Progress
pub mod Checks
