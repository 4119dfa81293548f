pub mod KeptMoments
pub mod KeptSizes
pub mod Lengths
pub mod Listing
pub mod Serving
pub mod Whole
