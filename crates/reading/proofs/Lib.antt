pub mod ReadingLaws
pub mod LocatedLaws
pub mod WalkLaws
pub mod Only
