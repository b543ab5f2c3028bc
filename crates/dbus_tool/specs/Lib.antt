pub mod Handshaking
pub mod Words
pub mod Alike
pub mod InputBack
