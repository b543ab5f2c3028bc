pub mod Leaves
pub mod ByteswappedFields
pub mod NumberRuns
pub mod MessageParts
