pub mod Sound
pub mod LargePages
mod Flushed
pub mod RangeTests
pub mod RangeCounts
pub mod RangeMapped
pub mod RangeFaults
pub mod RangeChanged
pub mod SlotChanges
pub mod Ends
pub mod KeptWords
mod Changed
mod EntryChanges
mod Granted
mod CacheLaws
