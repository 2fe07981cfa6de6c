pub mod Written
pub mod WrittenLaws
pub mod Rooms
pub mod RoomLaws
