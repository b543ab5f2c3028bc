pub mod Outcomes
pub mod Inverse
pub mod OneEncoding
pub mod InputBack
