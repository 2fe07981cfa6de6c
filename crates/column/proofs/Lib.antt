pub mod FitLaws
pub mod ReachLaws
pub mod SpotLaws
pub mod TruthLaws
pub mod LowestLaws
