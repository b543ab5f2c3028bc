pub mod MeantLimits
pub mod Outcomes
pub mod Telling
pub mod Swapped
pub mod RuleTelling
pub mod EndsMade
mod ConnectionsMade
mod Built
mod Rebuilt
pub mod WatchTelling
mod FaultsTold
mod Filled
mod LinesRead
mod RoomBytes
mod ReadAddresses
