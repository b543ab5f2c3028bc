mod Strings
mod Numbers
mod Lexed
mod Tokens
mod Values
mod Mixing
mod Fields
mod Lines
mod OneValue
mod KeptValues
mod Named
mod KeptFields
mod OneMessage
pub mod KeptLines
