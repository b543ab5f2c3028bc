pub mod Devices
pub mod Telling
pub mod Gathering
pub mod FaultFronts
pub mod PageLaws
pub mod Explaining
