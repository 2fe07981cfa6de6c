pub mod Over
pub mod OverLaws
