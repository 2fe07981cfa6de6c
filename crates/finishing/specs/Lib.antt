pub mod Places
pub mod EndLaws
