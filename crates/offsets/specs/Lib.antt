pub mod Offsets
pub mod Steps
pub mod OffsetLaws
pub mod CallLaws
