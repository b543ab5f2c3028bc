mod RoomSteps
pub mod Ending
