mod Ending
mod PartSteps
mod FileSteps
