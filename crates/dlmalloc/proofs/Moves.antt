-- A move puts extents in the place of others: what it leaves of lists, heaps and bins.
pub mod OfLists
pub mod OfHeaps
pub mod OfFreeExtents
pub mod WithBins
