pub mod Pages
pub mod Process
pub mod Served
