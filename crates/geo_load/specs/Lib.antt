pub mod Order
pub mod Blocks
pub mod Pairs
pub mod Walk
