pub mod JsonIntegers
pub mod JsonValues
pub mod Times
pub mod JsonMessages
pub mod Form
pub mod FormLaws
