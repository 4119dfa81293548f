pub mod Done
pub mod Image
pub mod Imaged
pub mod Traced
pub mod TracedLaws
pub mod Walks
