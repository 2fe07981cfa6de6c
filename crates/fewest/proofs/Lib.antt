pub mod Those
pub mod Counted
pub mod Grouped
pub mod First
pub mod Owned
pub mod Fewest
pub mod Examples
