pub mod Growing
pub mod GrowthLaws
pub mod Doubling
