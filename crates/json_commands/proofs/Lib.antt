pub mod Written
pub mod JsonAnswers
pub mod Spelled
