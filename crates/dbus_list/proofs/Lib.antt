pub mod CutTexts
pub mod CutSteps
pub mod ReadCharacters
pub mod JoinSteps
mod QuotedTexts
mod Ends
mod Clocks
mod Shown
pub mod Paired
pub mod SomeLines
mod Fitting
mod Controls
