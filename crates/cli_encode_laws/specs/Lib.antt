pub mod Inverse
pub mod OneEncoding
pub mod InputBack
