pub mod Handshakes
pub mod Mechanisms
