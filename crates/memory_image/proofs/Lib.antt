pub mod Imaging
pub mod Walked
pub mod Whole
