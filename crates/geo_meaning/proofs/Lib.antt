pub mod Left
pub mod Pairs
pub mod Rules
pub mod Steps
pub mod Present
