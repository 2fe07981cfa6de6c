pub mod GetLaws
pub mod Only
