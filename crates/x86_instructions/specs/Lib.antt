pub mod Flag
pub mod Ports
pub mod FlushCommand
pub mod Turns
pub mod Invlpgb
pub mod Flushed
