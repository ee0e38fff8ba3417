pub mod Rests
pub mod Watches
