pub mod Attributes
pub mod Boxes
pub mod Seen
