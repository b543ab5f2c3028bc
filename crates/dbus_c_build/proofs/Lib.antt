mod Anywhere
mod Cancelling
mod SameFields
mod ClearFields
pub mod OnlyMessage
mod Spelling
pub mod Refusing
