pub mod Dr7
pub mod Levels
