pub mod Filled
pub mod Levels
pub mod Words
