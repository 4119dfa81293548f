pub mod Masks
pub mod RootWord
