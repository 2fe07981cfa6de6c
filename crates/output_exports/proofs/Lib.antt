pub mod GivenLaws
pub mod Only
