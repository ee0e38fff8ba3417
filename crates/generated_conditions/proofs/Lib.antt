pub mod Lengths
pub mod TwoBoxes
pub mod Grounded
pub mod Placed
pub mod Read
