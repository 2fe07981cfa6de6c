pub mod Laying
pub mod BlockLaws
pub mod ColumnLaws
