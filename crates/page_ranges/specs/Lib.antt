pub mod RangeMapping
pub mod RangeUnmapping
