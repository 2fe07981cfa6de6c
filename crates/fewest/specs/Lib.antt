pub mod Lawful
pub mod Fewest
pub mod Examples
