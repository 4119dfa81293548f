-- Memory goes back to the system: the end of the top, and segments of which no byte is used.
pub mod Segments
pub mod Everything
pub mod SegmentVisited
pub mod SegmentLeaves
pub mod ReleasePass
pub mod VisitWithBins
pub mod Unused
pub mod Idle
pub mod TrimmedBytes
pub mod Trim
pub mod TopShortened
pub mod PassOrder
pub mod PassSteps
