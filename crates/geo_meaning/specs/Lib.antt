pub mod Judged
pub mod Quantified
