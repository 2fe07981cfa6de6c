pub mod Answer
pub mod Pieces
pub mod Sizes
pub mod Example
pub mod Rest
pub mod RestLaws
