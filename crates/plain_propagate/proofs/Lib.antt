pub mod PointSearch
pub mod Narrowed
pub mod Finding
pub mod Passing
pub mod Recorded
pub mod Blaming
pub mod Numbers
