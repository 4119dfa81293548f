pub mod Ascending
pub mod Numbers
pub mod OnAxis
pub mod Steps
pub mod Tiles
