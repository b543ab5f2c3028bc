pub mod Counting
pub mod Tables
pub mod NameOrder
pub mod Spans
