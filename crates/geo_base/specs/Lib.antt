pub mod Boxes
pub mod Tuple
pub mod Ways
