mod AheadSteps
mod HandshakeSteps
mod LineSteps
pub mod SameHandshakes
