pub mod Points
pub mod Defects
pub mod Passes
pub mod Recorded
