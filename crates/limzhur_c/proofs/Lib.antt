mod Sending
mod RangeCauses
mod Told
pub mod Flags
