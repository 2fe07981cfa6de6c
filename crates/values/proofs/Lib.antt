pub mod First
pub mod Only
