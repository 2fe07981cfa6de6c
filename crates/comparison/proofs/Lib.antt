pub mod SameLaws
pub mod CompareLaws
pub mod Only
