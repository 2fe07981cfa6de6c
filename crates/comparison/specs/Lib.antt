pub mod Compare
pub mod Same
pub mod Readable
pub mod VerdictLaws
