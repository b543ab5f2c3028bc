mod LineLaws
pub mod Rows
pub mod Printed
pub mod Taken
pub mod Steps
pub mod Stray
pub mod Written
mod Ended
mod Takes
mod Sorting
mod OfCaller
mod Leaving
mod Finishing
pub mod Some
pub mod Along
