pub mod Pick
pub mod Only
