pub mod Decided
pub mod Pieces
