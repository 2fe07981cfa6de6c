pub mod Lent
pub mod Meaning
pub mod Spot
pub mod Truth
pub mod Laid
pub mod Room
