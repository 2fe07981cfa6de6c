pub mod Rows
pub mod Listed
pub mod Begins
