pub mod Scans
pub mod Cuts
pub mod PrintedWords
pub mod Spaces
pub mod FirstLines
pub mod RoundTrips
pub mod WordForms
pub mod Meanings
pub mod SameLines
mod ExactLines
