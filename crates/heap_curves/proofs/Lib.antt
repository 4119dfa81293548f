pub mod Counted
pub mod Greatest
pub mod Loops
pub mod Meets
pub mod Numbers
pub mod Starts
pub mod Words
