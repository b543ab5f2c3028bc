pub mod LineLaws
pub mod ReadSteps
