pub mod Literals
pub mod Parts
pub mod Apart
pub mod Made
