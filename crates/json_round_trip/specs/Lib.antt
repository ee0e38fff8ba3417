pub mod Stated
pub mod Return
