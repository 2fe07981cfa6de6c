pub mod EndLaws
pub mod Only
