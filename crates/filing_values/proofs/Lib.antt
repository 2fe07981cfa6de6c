pub mod ValueLaws
pub mod SearchLaws
pub mod Only
