pub mod Extents
pub mod Capped
