pub mod TypeEnds
pub mod TypeCodes
pub mod PrefixSteps
mod Parsing
pub mod TypeLengths
