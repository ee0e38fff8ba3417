pub mod Givens
pub mod Judges
pub mod Draws
pub mod Loads
pub mod Named
