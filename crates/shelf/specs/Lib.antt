pub mod Scan
pub mod Lines
pub mod LineLaws
pub mod Items
pub mod ItemLaws
pub mod Adding
