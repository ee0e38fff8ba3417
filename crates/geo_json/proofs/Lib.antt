pub mod Shown
pub mod Ascii
pub mod Tokens
pub mod Plain
