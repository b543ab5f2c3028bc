pub mod NameSteps
mod ScanSteps
pub mod WordBlocks
mod LinkedBlocks
mod WholeNames
mod Utf8Steps
mod SignatureSteps
pub mod PlainRuns
mod Runs
pub mod TypeTexts
mod AsciiNames
pub mod KindFacts
