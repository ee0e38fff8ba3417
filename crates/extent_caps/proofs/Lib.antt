pub mod Adding
pub mod CapTruth
pub mod CapFit
pub mod Meant
pub mod Ending
