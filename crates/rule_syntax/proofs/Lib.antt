pub mod Expressions
pub mod Views
mod Refusals
