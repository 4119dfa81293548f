pub mod Cache
pub mod Covered
pub mod Pages
pub mod Chains
pub mod PageIndex
pub mod Cached
pub mod Translation
pub mod Calls
