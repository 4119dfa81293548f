-- A grant of the system joins the heap: after the head segment, before a segment, or as a new head.
pub mod NewRegion
pub mod BehindHead
pub mod NewHead
pub mod PutBefore
pub mod SegmentBehind
pub mod CutFromStart
pub mod BeforeWhich
pub mod WithBins
pub mod StillGranted
pub mod Opened
pub mod TopLeft
pub mod NewHeadStored
