mod Callers
pub mod Passes
mod Said
