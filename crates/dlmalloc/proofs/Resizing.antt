-- A block gets another size, where it stands or elsewhere.
pub mod TwoExtents
pub mod Split
pub mod SplitAndFreed
pub mod EnlargedWords
pub mod Enlarged
pub mod IntoFree
pub mod IntoTop
pub mod InPlace
pub mod InPlaceOrElsewhere
