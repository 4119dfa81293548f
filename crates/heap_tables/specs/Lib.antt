pub mod Joining
pub mod Lines
pub mod Owners
pub mod Rows
pub mod Tables
pub mod Uses
pub mod Walked
