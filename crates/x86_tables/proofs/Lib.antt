pub mod GateBits
pub mod GateLists
pub mod GatesMemory
pub mod TssBytes
