-- Requests: their sizes, and the blocks that they are given.
pub mod Plain
pub mod Aligned
pub mod AlignedPlace
pub mod LeadAndTail
pub mod Granularity
