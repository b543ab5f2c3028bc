pub mod Flattening
pub mod FlattenerLaws
