pub mod Earliest
pub mod Table
