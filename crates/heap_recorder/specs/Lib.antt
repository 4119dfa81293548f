pub mod Lines
pub mod Mappings
pub mod Places
pub mod Regions
pub mod Run
pub mod Shown
pub mod Sizes
pub mod Stays
