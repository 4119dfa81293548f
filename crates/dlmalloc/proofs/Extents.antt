-- Where extents lie, how they tile a segment, and which of them a heap names.
pub mod Lookup
pub mod Tiling
pub mod Disjoint
pub mod FromWords
pub mod FreeMerged
pub mod FreeParted
pub mod OneMoreUsed
pub mod RunReplaced
pub mod Shown
pub mod AllTiled
pub mod Spans
pub mod SpanList
pub mod Top
pub mod Victim
pub mod Least
pub mod NoRoom
pub mod Walk
