pub mod First
pub mod Make
pub mod Refuted
pub mod All
pub mod Listing
pub mod Summed
pub mod Best
pub mod Why
