pub mod AddLaws
pub mod ScanLaws
pub mod SaysLaws
pub mod BadLaws
