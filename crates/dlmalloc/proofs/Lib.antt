mod Names
pub mod Extents
pub mod Words
pub mod Blocks
pub mod Moves
pub mod Segments
pub mod Grants
pub mod Cuts
pub mod Requests
pub mod Resizing
pub mod Frees
pub mod Bins
pub mod Returns
mod Examples
pub mod Laws
