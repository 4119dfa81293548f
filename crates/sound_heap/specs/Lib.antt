pub mod Blanks
pub mod Heap
