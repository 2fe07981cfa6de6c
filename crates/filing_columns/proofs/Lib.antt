pub mod ViewsLaws
pub mod ColumnsLaws
pub mod Only
