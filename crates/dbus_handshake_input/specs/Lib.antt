pub mod Ahead
pub mod Alike
pub mod Handshakes
pub mod Heard
pub mod Passing
