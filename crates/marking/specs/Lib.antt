pub mod Text
pub mod Example
pub mod Left
pub mod LeftLaws
