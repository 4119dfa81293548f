pub mod Places
pub mod Turns
pub mod Words
pub mod Flushed
