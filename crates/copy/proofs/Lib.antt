pub mod Laws
pub mod Overlap
pub mod Only
