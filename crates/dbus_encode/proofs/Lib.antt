pub mod FieldWriting
pub mod Encoded
