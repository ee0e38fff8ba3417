pub mod Variables
pub mod Cursor
pub mod Shed
pub mod Walker
pub mod Record
pub mod Next
