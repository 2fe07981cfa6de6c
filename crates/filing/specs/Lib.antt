pub mod Files
pub mod Rows
pub mod FilesLaws
pub mod RowLaws
pub mod LayLaws
