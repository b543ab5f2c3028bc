pub mod Handles
pub mod Checkers
pub mod Rules
pub mod Connections
