pub mod Claims
pub mod Check
pub mod CheckBest
pub mod Checks
