pub mod Drawing
pub mod Joins
pub mod Larges
pub mod Names
pub mod Slots
pub mod Pictures
pub mod Whose
