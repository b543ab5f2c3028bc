mod Floats
pub mod FloatTexts
pub mod FieldTexts
pub mod OneLines
pub mod SomeLines
