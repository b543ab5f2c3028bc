mod WriteSteps
pub mod CallLaws
