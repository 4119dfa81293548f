-- A chunk is freed, and joins the free ones beside it or the top.
pub mod Joined
pub mod StateAfter
pub mod FreeBeside
pub mod Behind
pub mod JoinedNeighbours
pub mod OfChunk
pub mod OfChunkAndBins
pub mod BeforeTop
pub mod NeighboursUnbinned
pub mod Counted
pub mod Settled
pub mod Whole
pub mod WhatCallsWant
