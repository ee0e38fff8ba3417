pub mod Memory
pub mod Piles
pub mod Rows
pub mod Stacks
