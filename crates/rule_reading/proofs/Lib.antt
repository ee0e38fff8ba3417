pub mod Formulas
pub mod Steps
pub mod Limits
pub mod Outcomes
