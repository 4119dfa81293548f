pub mod Request
pub mod Bins
pub mod Head
pub mod HeadLaws
pub mod Chunk
pub mod ChunkLaws
pub mod Kinds
pub mod Tiling
