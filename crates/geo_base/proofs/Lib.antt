pub mod Loops
pub mod Meeting
pub mod Ways
pub mod Mirror
