-- Segments, the records that describe them, and the regions that they lie in.
pub mod Among
pub mod WordsKept
pub mod OneReplaced
pub mod HeadTold
pub mod Head
pub mod RegionsMore
pub mod RegionsLess
pub mod Exchange
pub mod ByAddress
pub mod HeadTop
pub mod Walk
