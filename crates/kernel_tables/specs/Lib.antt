pub mod TableState
pub mod Begun
pub mod Faults
pub mod Flush
pub mod Ranges
pub mod Words
pub mod Grants
pub mod Changes
