pub mod Spells
pub mod Sizing
pub mod Written
pub mod Patching
pub mod SizeLaws
pub mod MeasureSteps
