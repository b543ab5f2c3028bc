pub mod NoWords
pub mod FileReports
