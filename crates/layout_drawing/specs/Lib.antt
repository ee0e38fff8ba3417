pub mod Drawing
pub mod Blocks
pub mod Painting
