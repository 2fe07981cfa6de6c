pub mod Table
pub mod Lead
pub mod Text
pub mod Cut
