pub mod MessageItems
pub mod HeaderReading
pub mod MessageOutcomes
pub mod NoMessage
pub mod OutcomeLaws
pub mod StatedLengths
