pub mod Firsts
pub mod Tables
pub mod Attributes
pub mod Sights
pub mod Passed
pub mod Listed
