pub mod Classes
pub mod Figures
pub mod Text
pub mod Totals
