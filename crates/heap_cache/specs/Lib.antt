pub mod Stacks
pub mod Held
pub mod Emptied
pub mod Served
pub mod Cleared
pub mod Live
pub mod Resized
pub mod Trimmed
