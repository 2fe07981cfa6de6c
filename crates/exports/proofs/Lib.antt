pub mod PartLaws
pub mod PlaceLaws
pub mod Only
pub mod PartsOnly
