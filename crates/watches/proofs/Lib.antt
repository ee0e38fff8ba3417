pub mod Resting
pub mod Holding
pub mod Totals
