-- A chunk is cut from a free extent, the victim or the top.
pub mod ChunkPlace
pub mod FoundByTest
pub mod Chosen
pub mod FreeExtent
pub mod FreeChunk
pub mod StateAfter
pub mod Top
pub mod BinsMeanwhile
pub mod Grown
pub mod OneStepOrTwo
