pub mod Rooms
pub mod RoomLaws
pub mod Counting
pub mod CountingLaws
