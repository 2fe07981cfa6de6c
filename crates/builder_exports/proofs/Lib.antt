pub mod NumberLaws
pub mod Only
