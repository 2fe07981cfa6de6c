pub mod TabledLaws
pub mod Only
