pub mod Laws
pub mod PartLaws
pub mod Only
