pub mod Lines
pub mod Moved
