pub mod Numbers
pub mod Added
pub mod Totals
pub mod Listed
pub mod Begins
