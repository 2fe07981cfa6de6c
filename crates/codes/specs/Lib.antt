pub mod Ascii
pub mod Grammar
pub mod Recogniser
pub mod MonthWords
pub mod Windows
pub mod Marks
pub mod Examples
