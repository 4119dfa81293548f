pub mod Counts
pub mod Places
pub mod Sums
pub mod Texts
pub mod Totals
pub mod TreeSizes
