pub mod Views
pub mod NumberRuns
