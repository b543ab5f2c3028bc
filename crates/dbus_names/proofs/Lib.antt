pub mod KeptSteps
pub mod OpenNames
pub mod Naming
pub mod WantedNames
