pub mod Breakpoints
pub mod Gates
pub mod Meanings
pub mod Numbers
pub mod Segments
pub mod Values
