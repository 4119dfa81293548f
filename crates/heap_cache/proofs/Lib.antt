pub mod StackLemmas
pub mod HeldLemmas
pub mod EmptyLemmas
pub mod ServeLemmas
pub mod ClearLemmas
pub mod LiveLemmas
pub mod MoveLemmas
