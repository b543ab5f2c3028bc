pub mod Suspended
pub mod Fronts
pub mod Denotations
pub mod Moves
