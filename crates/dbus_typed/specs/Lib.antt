pub mod Next
pub mod TupleTypes
