pub mod Bars
pub mod Bytes
pub mod Heights
pub mod Lines
pub mod Numbers
pub mod Pixels
