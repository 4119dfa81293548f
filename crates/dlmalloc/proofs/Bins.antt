-- What the bins hold, in which order, and what they find.
pub mod Held
pub mod Order
pub mod OneOrder
pub mod LeastFit
pub mod Members
pub mod Changes
