pub mod Calm
pub mod Elements
pub mod Fields
pub mod Shapes
pub mod View
