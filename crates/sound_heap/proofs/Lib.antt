pub mod BlockWords
mod HandedOut
