pub mod Filled
pub mod Walked
