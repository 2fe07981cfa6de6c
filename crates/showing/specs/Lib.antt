pub mod Row
pub mod Rows
pub mod Stores
pub mod Rooms
pub mod Truths
pub mod Shows
pub mod Padded
pub mod LaidLaws
