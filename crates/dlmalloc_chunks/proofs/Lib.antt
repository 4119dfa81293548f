mod Examples
pub mod Powers
pub mod HeadBits
pub mod PowersOfTwo
pub mod Wanted
