pub mod Laws
pub mod Only
pub mod OrderLaws
pub mod WordOrder
