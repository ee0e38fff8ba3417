pub mod Canonical
pub mod Spelled
