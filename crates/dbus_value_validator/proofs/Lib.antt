pub mod ReadParts
pub mod ItemSteps
mod OpenStructs
pub mod NumberArrays
pub mod ValueSteps
