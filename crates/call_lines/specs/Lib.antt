pub mod Asked
pub mod CallLine
pub mod Grammar
pub mod Number
pub mod Words
pub mod Written
