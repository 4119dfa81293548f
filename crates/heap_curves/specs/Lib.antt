pub mod Addresses
pub mod Calls
pub mod Columns
pub mod Curves
pub mod Ends
pub mod Lanes
pub mod Paths
pub mod Refused
