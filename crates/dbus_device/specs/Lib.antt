pub mod Device
pub mod Packets
pub mod Calls
