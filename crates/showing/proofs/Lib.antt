pub mod RowsLaws
pub mod ShowsLaws
