pub mod Cut
pub mod Compact
pub mod Bounded
pub mod Steps
