pub mod RecordLaws
pub mod Only
