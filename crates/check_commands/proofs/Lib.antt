pub mod Pieces
pub mod Behind
pub mod Serving
pub mod OneCheck
pub mod ChecksBest
