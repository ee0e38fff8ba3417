pub mod TwoTexts
pub mod Refusals
mod Giving
pub mod Lifting
pub mod OneRefusal
pub mod Ending
pub mod InDimension
