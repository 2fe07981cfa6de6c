pub mod Compacts
pub mod Records
