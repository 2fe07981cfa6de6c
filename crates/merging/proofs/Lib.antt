pub mod Search
pub mod TableLaws
