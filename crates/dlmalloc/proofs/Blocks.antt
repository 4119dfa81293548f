-- Blocks: their chunks, their words, and what holds of one that is handed out.
pub mod Chunks
pub mod Words
pub mod WordsKept
pub mod WordsOutside
pub mod HandedOut
pub mod GivenSize
pub mod Allocated
