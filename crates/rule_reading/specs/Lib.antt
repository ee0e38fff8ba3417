pub mod Outcome
pub mod Bound
