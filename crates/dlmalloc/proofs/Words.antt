-- The words that a heap rests on, and those that it leaves alone.
pub mod Spared
pub mod Telling
pub mod OfLinks
pub mod OfRecords
