pub mod TextLaws
pub mod RowLaws
pub mod Shown
pub mod Only
pub mod Exit
