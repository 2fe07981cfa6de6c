pub mod CheckLaws
pub mod Only
