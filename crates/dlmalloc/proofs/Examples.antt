-- Worked values.
mod Definitions
mod Resizing
mod Grants
mod Trims
mod Order
mod TwoSegments
