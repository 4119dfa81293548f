pub mod CallLines
pub mod Decoded
mod Examples
pub mod Found
pub mod Numerals
pub mod Printed
pub mod Sought
pub mod WordLemmas
pub mod Writes
