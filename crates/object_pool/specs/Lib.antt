pub mod Bytes
pub mod Lists
pub mod Slots
pub mod Pooled
pub mod Places
pub mod Pool
pub mod Emptied
