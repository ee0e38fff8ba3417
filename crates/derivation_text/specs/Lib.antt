pub mod Lines
pub mod Gathering
