mod HeldSteps
pub mod SeenSteps
mod FieldTurns
mod BodySteps
mod WholeSteps
mod WholeRefusals
pub mod Headed
pub mod WholeParts
