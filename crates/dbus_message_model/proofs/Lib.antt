pub mod KnownValues
pub mod FieldLists
pub mod BothOrders
pub mod Widening
