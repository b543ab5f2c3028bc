pub mod FaultFronts
pub mod GatherSteps
