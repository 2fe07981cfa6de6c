pub mod WalkLaws
pub mod Second
