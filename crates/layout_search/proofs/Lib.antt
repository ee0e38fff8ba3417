pub mod Walked
pub mod Alike
pub mod AlikeRows
pub mod States
pub mod Members
pub mod Outcomes
pub mod Solutions
pub mod Layouts
pub mod Listed
pub mod Pages
pub mod Stated
pub mod Unpassed
mod Spots
