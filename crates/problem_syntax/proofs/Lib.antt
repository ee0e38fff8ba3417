pub mod Right
pub mod Levels
pub mod WholeText
pub mod EndedLoop
pub mod MoreShapes
