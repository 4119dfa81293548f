pub mod HeapAnswers
pub mod HeapStats
pub mod TablesAnswers
pub mod TablesCodes
