pub mod Bars
pub mod Cells
pub mod Changes
pub mod Paths
pub mod Rows
pub mod Shades
pub mod Spans
