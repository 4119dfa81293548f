pub mod Regions
pub mod Pairs
pub mod MetSlots
pub mod Mapped
pub mod Shown
pub mod UserRegions
pub mod FrameUse
